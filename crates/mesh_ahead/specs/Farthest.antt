-- How far paths lead from the edges that they began as.
use Rattle.std.specs.Prelude.{ℕ, suc, ◌≡◌, ◌*◌, ◌<◌, ◌≤◌, unsigned_abs}
use Rattle.mesh_plane.specs.Plane.{turn}
use Rattle.mesh_meeting.specs.Small.{HasSmallEnds}
use Rattle.mesh_pairs.specs.Laws.{spread}
use Rattle.mesh_paths.specs.declared.paths.Paths.{Paths}
use Rattle.mesh_paths.specs.Stops.{count_of, pieces_of, point_of}
use Rattle.mesh_check.specs.Bent.{line_of}

-- the edges of all paths have small ends
abbrev pub AreLinesSmall : Paths → Type 0
AreLinesSmall p = (k : ℕ) → k < count_of p.stops → HasSmallEnds (line_of p k)

-- how far beside the line of its edge a path's stop lies, as a turn without its sign
abbrev pub beside_at : Paths → ℕ → ℕ → ℕ
beside_at p path i = unsigned_abs (turn (line_of p path).0 (line_of p path).1 (point_of p.stops path i))

-- one of the first stops of a path lies just so far beside it
pub record IsBesideBy (p : Paths) (path most count : ℕ) : Type 0 where
  pub place : ℕ
  pub within : place < count
  pub same : beside_at p path place ≡ most

-- so many first stops of a path lie so far beside it at most, and one of them does, unless this is 0
pub record IsFarthestOf (p : Paths) (path most count : ℕ) : Type 0 where
  pub all : (i : ℕ) → i < count → beside_at p path i ≤ most
  pub one : 0 < most → IsBesideBy p path most count

-- all stops of it do
abbrev pub IsFarthest : Paths → ℕ → ℕ → Type 0
IsFarthest p path most = IsFarthestOf p path most (suc (pieces_of p.stops path))

-- a stop of one of so many first paths does not lie within less than `k` 64ths of a unit of its edge
pub record IsNoNearer (p : Paths) (count k : ℕ) : Type 0 where
  pub path : ℕ
  pub place : ℕ
  pub its_path : path < count
  pub its_place : place ≤ pieces_of p.stops path
  pub least : (l : ℕ) → l < k → l * spread (line_of p path) < 64 * beside_at p path place

-- all stops of so many first paths lie within `k` 64ths of a unit of their edges, and one does not lie within less
pub record IsNearnessOf (p : Paths) (count k : ℕ) : Type 0 where
  pub all : (path i : ℕ) → path < count → i ≤ pieces_of p.stops path → 64 * beside_at p path i ≤ k * spread (line_of p path)
  pub one : 0 < k → IsNoNearer p count k
