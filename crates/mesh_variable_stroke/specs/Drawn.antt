-- What is promised of the edges of a stroke of variable width.
use Rattle.std.specs.Prelude.{ℕ, List, [], ◌∷◌, map, ℤ, pos}
use Rattle.std.specs.Int.{int_max}
use Rattle.std.specs.List.{All}
use Rattle.mesh_plane.specs.Plane.{Point, Edge}
use Rattle.mesh_plane.specs.Winding.{IsBalanced}
use Rattle.mesh_lattice.specs.Reach.{AreEdgesSafe}
use Rattle.mesh_num.specs.Rectangle.{IsSafeWidened}
use Rattle.mesh_arc.specs.declared.arc.ArcOptions.{ArcOptions}
use Rattle.mesh_join.specs.VariableStyles.{Vertex}
use Rattle.mesh_offset.specs.Padding.{AreEndsNear}
use Rattle.mesh_offset.specs.Pieces.{WindAsPieces}
use Rattle.mesh_offset.specs.Radii.{radius_of}
use Rattle.mesh_variable_stroke.specs.VariableStrokes.{variable_stroke_pieces}

-- the points of vertices
abbrev pub vertex_points : List Vertex → List Point
vertex_points vertices = map (λ (v : Vertex). v.point) vertices

-- the greatest radius of a vertex, 0 where there is none
unfoldable pub greatest_radius : List Vertex → ℤ
greatest_radius [] = pos 0
greatest_radius (v ∷ vertices) = int_max (radius_of v.width) (greatest_radius vertices)

-- each vertex stays safe where it moves by this padding
abbrev pub AreStrokable : ℕ → ℤ → List Vertex → Type 0
AreStrokable unit padding vertices = All (λ (v : Vertex). IsSafeWidened unit padding v.point) vertices

-- edges that are drawn as the stroke of the path of these vertices, which stay safe where they move by its greatest
-- radius
pub record AreVariablyStroked (unit : ℕ) (options : ArcOptions) (vertices : List Vertex) (es : List Edge)
    : Type 0 where
  -- they close up: as many of them end in a point as start there
  pub balanced : IsBalanced es
  -- they stay near the path
  pub near : AreEndsNear (greatest_radius vertices) (vertex_points vertices) es
  -- and in the safe range
  pub safe : AreEdgesSafe unit es
  -- they wind as the pieces of the stroke together
  pub sum : WindAsPieces (variable_stroke_pieces unit options vertices) es
