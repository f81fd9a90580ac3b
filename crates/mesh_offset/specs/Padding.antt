-- How far outlines and strokes reach from the points of their contours and paths, and what stays in the safe range.
use Rattle.std.specs.Prelude.{ℕ, List, ℤ}
use Rattle.std.specs.List.{All, Contains, flat_map}
use Rattle.mesh_plane.specs.Plane.{Point, Edge, plus, minus}
use Rattle.mesh_num.specs.Rectangle.{IsSafeWidened}
use Rattle.mesh_join.specs.Joints.{IsWithinPadding}

-- each point of each path stays safe where it moves by at most the padding
abbrev pub ArePathsSafe : ℕ → ℤ → List (List Point) → Type 0
ArePathsSafe unit padding paths = All (λ (path : List Point). All (IsSafeWidened unit padding) path) paths

-- the points of all paths
abbrev pub all_points : List (List Point) → List Point
all_points paths = flat_map (λ (path : List Point). path) paths

-- a rectangle moved outwards by the padding on each side
abbrev pub widened : ℤ → Edge → Edge
widened padding bounds = (minus bounds.0 (padding, padding), plus bounds.1 (padding, padding))

-- `p` is away from one of the vertices of a contour or path by at most the padding in each coordinate
pub record IsNear (padding : ℤ) (vertices : List Point) (p : Point) : Type 0 where
  pub vertex : Point
  pub listed : Contains vertices vertex
  pub within : IsWithinPadding padding vertex p

-- both ends of each edge are away from one of the points by at most the padding in each coordinate
abbrev pub AreEndsNear : ℤ → List Point → List Edge → Type 0
AreEndsNear padding points es = All (λ (e : Edge). IsNear padding points e.0 × IsNear padding points e.1) es
