-- What holds midway through a search for a contour's start or a ring's holder.
use Rattle.std.specs.Prelude.{ℕ, ◌≡◌, ◌+◌, ◌<◌, Bool, true, false, List, length, drop, slice_index_or, pos}
use Rattle.std.specs.Prelude.{Option, MatchOption}
use Rattle.mesh_plane.specs.Plane.{Point}
use Rattle.mesh_plane.specs.Order.{point_lt}
use Rattle.mesh_plane.specs.Turning.{first_or}
use Rattle.mesh_shapes.specs.Contours.{kept, omitted}
use Rattle.mesh_shapes.specs.Homes.{NoneEncloses, IsHolder}
use Rattle.mesh_shapes.specs.Resolution.{Ring}

-- the point at a place of a list
abbrev pub point_at : List Point → ℕ → Point
point_at ps i = slice_index_or ps i (pos 0, pos 0)

-- the first point of the list that is answered, where the way runs from `a` by all of them to `z`, or else `z`
abbrev pub next_kept : Bool → Point → List Point → Point → Point
next_kept all a xs z = first_or z (kept all a xs z)

-- the next vertex that is answered after the place `i` of a contour
abbrev pub next_at : Bool → List Point → ℕ → Point
next_at all ps i = next_kept all (point_at ps i) (drop (i + 1) ps) (point_at ps 0)

-- the point at a place is the first one's, and no visit of it has a lesser next vertex before the place `n`
pub record IsBestVisit (all : Bool) (ps : List Point) (n best : ℕ) : Type 0 where
  pub within : best < length ps
  pub visit : point_at ps best ≡ point_at ps 0
  pub least : (k : ℕ) → k < n → point_at ps k ≡ point_at ps 0
      → point_lt (next_at all ps k) (next_at all ps best) ≡ false

-- of the points before the place `n` none is less than that at `least`
pub record IsLeastBefore (ps : List Point) (n least : ℕ) : Type 0 where
  pub within : least < length ps
  pub none_less : (k : ℕ) → k < n → point_lt (point_at ps k) (point_at ps least) ≡ false

-- what a search among the first `n` rings for the holder of the point has found
abbrev pub IsFound : List Ring → ℕ → Point → Option ℕ → Type 0
IsFound rs n q best = MatchOption best (NoneEncloses rs n q) (IsHolder rs n q)

-- the point after the place `i`, the first after the last
abbrev pub point_after : List Point → ℕ → Point
point_after ps i = first_or (point_at ps 0) (drop (i + 1) ps)

-- the points that are answered after the place `i`, where the way comes to them from `before`
abbrev pub kept_after : Bool → Point → List Point → ℕ → List Point
kept_after all before ps i = kept all before (drop (i + 1) ps) (point_at ps 0)

-- the points that are left out after the place `i`, where the way comes to them from `before`
abbrev pub omitted_after : Bool → Point → List Point → ℕ → List Point
omitted_after all before ps i = omitted all before (drop (i + 1) ps) (point_at ps 0)
