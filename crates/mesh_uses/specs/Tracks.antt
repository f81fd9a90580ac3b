-- How far tracks with round corners and ends go from their paths.
use Rattle.std.specs.Prelude.{ℕ, ◌+◌, ◌*◌, ◌<◌, ◌≢◌, false, List, ℤ, pos, unsigned_abs}
use Rattle.mesh_num.specs.Plane.{Point}
use Rattle.mesh_num.specs.Winding.{winding}
use Rattle.mesh_reach.specs.Reach.{IsReachedWithin}
use Rattle.mesh_offset.specs.Adding.{answer_edges}
use Rattle.mesh_stroke.specs.Reach.{all_sections}

-- twice the square of the radius and what rounding may add
abbrev pub round_reach : ℕ → ℕ
round_reach r = 2 * (r * r) + 3 * r + 1

-- each point round which a track winds lies within `k` 64ths of a unit, in both coordinates, of a point so near to a path
abbrev pub StaysBeside : ℕ → ℤ → List (List Point) → List (List (List Point)) → Type 0
StaysBeside k radius paths answer =
    (m : ℕ) → 0 < m → (q : Point) → winding m q (answer_edges answer) ≢ pos 0
    → IsReachedWithin k (round_reach (unsigned_abs radius)) m (all_sections false paths) q
