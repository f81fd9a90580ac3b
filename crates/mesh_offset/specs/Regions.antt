-- Answers whose contours wind once round what a test tells.
use Rattle.std.specs.Prelude.{ℕ, ◌<◌, ◌≡◌, Bool, false, List, int_lt, pos}
use Rattle.std.specs.List.{list_any}
use Rattle.mesh_plane.specs.Plane.{Point}
use Rattle.mesh_plane.specs.Winding.{crossing_on, holds, pieces_total, winding}
use Rattle.mesh_lattice.specs.Counted.{bit}
use Rattle.mesh_shapes.specs.Resolution.{Choices}
use Rattle.mesh_offset.specs.Adding.{answer_edges}

-- with no least area and outer contours counterclockwise, the answer winds once round each point of each grid of which
-- the test is true, and round no other; so at points that are where `IsPlain` says, outside the boxes of bent edges
abbrev pub WindsOnceWhere : (ℕ → Point → Bool) → (ℕ → Point → Type 0) → Choices → List (List (List Point)) → Type 0
WindsOnceWhere test IsPlain choices answer =
    choices.least_area ≡ 0 → choices.clockwise ≡ false → (m : ℕ) → 0 < m → (q : Point) → IsPlain m q
    → winding m q (answer_edges answer) ≡ bit (test m q)

-- the windings of the pieces add up to more than 0 at the point
abbrev pub wind_above : List (List Point) → ℕ → Point → Bool
wind_above pieces m q = int_lt (pos 0) (pieces_total (crossing_on m q) pieces)

-- one of the pieces holds the point
abbrev pub is_held : List (List Point) → ℕ → Point → Bool
is_held pieces m q = list_any (holds m q) pieces
