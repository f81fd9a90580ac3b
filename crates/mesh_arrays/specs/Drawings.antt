-- What is drawn of lists and numbers. Coordinates are of a type with `unit`; `point_of` and `vertex_of` are what the
-- numbers for a point and for a vertex stand for.
use Rattle.std.specs.Prelude.{ℕ, ◌≡◌, Bool, List, Some, map}
use Rattle.mesh_plane.specs.Plane.{Point}
use Rattle.mesh_join.specs.Styles.{OutlineStyle}
use Rattle.mesh_join.specs.VariableStyles.{Vertex}
use Rattle.mesh_stroke.specs.Styles.{StrokeStyle}
use Rattle.mesh_drawing.specs.Drawn.{Drawn, as_outline, as_stroke, as_variable_stroke}
use Rattle.mesh_arrays.specs.EndToEnd.{AreEndToEnd}
use Rattle.mesh_arrays.specs.Styles.{arc_of, outline_style_in, stroke_style_in, flag_in}
use Rattle.mesh_arrays.specs.declared.styles.FlatArc.{FlatArc}
use Rattle.mesh_arrays.specs.declared.styles.FlatOutlineStyle.{FlatOutlineStyle}
use Rattle.mesh_arrays.specs.declared.styles.FlatStrokeStyle.{FlatStrokeStyle}

-- the outline in a style of contours that stand end to end
pub record IsOutlineOf {F : Type 0} (unit : ℕ) (point_of : F → Point) (points : List F) (ends : List ℕ)
    (style : FlatOutlineStyle) (drawn : Drawn) : Type 0 where
  pub meant : OutlineStyle
  pub styled : outline_style_in unit style ≡ Some meant
  pub paths : List (List Point)
  pub given : AreEndToEnd paths (map point_of points) ends
  pub drawing : drawn ≡ as_outline meant paths

-- the stroke in a style, with the points of custom caps at the start and the end, of paths that stand end to end
pub record IsStrokeOf {F : Type 0} (unit : ℕ) (point_of : F → Point) (points : List F) (ends : List ℕ)
    (style : FlatStrokeStyle) (cap_points : List F × List F) (drawn : Drawn) : Type 0 where
  pub meant : StrokeStyle
  pub styled : stroke_style_in unit point_of style cap_points ≡ Some meant
  pub closed : Bool
  pub said : flag_in style.closed ≡ Some closed
  pub paths : List (List Point)
  pub given : AreEndToEnd paths (map point_of points) ends
  pub drawing : drawn ≡ as_stroke meant closed paths

-- the stroke with such arcs of paths of vertices that stand end to end
pub record IsVariableStrokeOf {F : Type 0} (vertex_of : F → Vertex) (vertices : List F) (ends : List ℕ) (arc : FlatArc)
    (drawn : Drawn) : Type 0 where
  pub paths : List (List Vertex)
  pub given : AreEndToEnd paths (map vertex_of vertices) ends
  pub drawing : drawn ≡ as_variable_stroke (arc_of arc) paths
