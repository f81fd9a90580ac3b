-- Paths with a common stop that lines part but near it.
use Rattle.std.specs.Prelude.{ℕ, suc, ◌≡◌, ◌+◌, ◌<◌, ◌≤◌}
use Rattle.mesh_plane.specs.Plane.{Point, Edge}
use Rattle.mesh_lattice.specs.Split.{AreClear}
use Rattle.mesh_paths.specs.declared.paths.Paths.{Paths}
use Rattle.mesh_paths.specs.declared.paths.Piece.{Piece}
use Rattle.mesh_paths.specs.Stops.{pieces_of, point_of}
use Rattle.mesh_check.specs.declared.comparing.Stretch.{Stretch}
use Rattle.mesh_check.specs.Heights.{IsFarFromLine, IsPathAlong}

-- a zone about place `i` may start at a stop more than so many units beside the line of an edge, or where the path does
pub record StartsZone (k : ℕ) (e : Edge) (at : ℕ → Point) (i start : ℕ) : Type 0 where
  pub before : start ≤ i
  pub far : 0 < start → IsFarFromLine k e (at start)

-- and end at another one, or where the path of `n` pieces does
pub record EndsZone (k : ℕ) (e : Edge) (at : ℕ → Point) (n i end : ℕ) : Type 0 where
  pub after : i ≤ end
  pub within : end ≤ n
  pub far : end < n → IsFarFromLine k e (at end)

pub record IsZone (k : ℕ) (e : Edge) (at : ℕ → Point) (n i start end : ℕ) : Type 0 where
  pub starts : StartsZone k e at i start
  pub ends : EndsZone k e at n i end

-- a zone of a path about a place of it
pub record IsZoneAbout (p : Paths) (k : ℕ) (e : Edge) (at : Piece) (zone : Stretch) : Type 0 where
  pub path : zone.path ≡ at.path
  pub is_zone : IsZone k e (point_of p.stops at.path) (pieces_of p.stops at.path) at.place zone.start zone.end

-- where two paths have a common stop, and the zone of each about it ends beside the other's edge by more than how far
-- that one is bent and twice how far it is bent itself, all pieces are clear of each other if those in both zones are
abbrev pub PathsWithClearZonesAreClear : Type 0
PathsWithClearZonesAreClear =
    (k l : ℕ) (e f : Edge) (a b : ℕ → Point) (n o i j a_start a_end b_start b_end : ℕ)
    → IsPathAlong k e a n → IsPathAlong l f b o → a i ≡ b j
    → IsZone (l + (k + k)) f a n i a_start a_end → IsZone (k + (l + l)) e b o j b_start b_end
    → ((p q : ℕ) → a_start ≤ p → p < a_end → b_start ≤ q → q < b_end → AreClear (a p, a (suc p)) (b q, b (suc q)))
    → (p q : ℕ) → p < n → q < o → AreClear (a p, a (suc p)) (b q, b (suc q))
