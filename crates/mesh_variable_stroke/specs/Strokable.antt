-- Which paths may be stroked, and how far their strokes reach.
use Rattle.std.specs.Prelude.{ℕ, List, [], ◌∷◌, map, ℤ, pos}
use Rattle.std.specs.Int.{int_max}
use Rattle.std.specs.List.{All}
use Rattle.mesh_plane.specs.Plane.{Point}
use Rattle.mesh_join.specs.VariableStyles.{Vertex}
use Rattle.mesh_offset.specs.Padding.{all_points}
use Rattle.mesh_variable_stroke.specs.Drawn.{vertex_points, greatest_radius, AreStrokable}

-- the greatest radius of all vertices of all paths, 0 where there is none
unfoldable pub padding_of : List (List Vertex) → ℤ
padding_of [] = pos 0
padding_of (path ∷ paths) = int_max (greatest_radius path) (padding_of paths)

-- each vertex of each path stays safe where it moves by at most the greatest radius of all
abbrev pub ArePathsStrokable : ℕ → List (List Vertex) → Type 0
ArePathsStrokable unit paths = All (λ (path : List Vertex). AreStrokable unit (padding_of paths) path) paths

-- the points of all vertices of all paths
abbrev pub all_vertex_points : List (List Vertex) → List Point
all_vertex_points paths = all_points (map vertex_points paths)
