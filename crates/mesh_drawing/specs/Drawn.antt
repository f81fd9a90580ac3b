-- What is drawn of paths.
use Rattle.std.specs.Prelude.{Bool, List, ℤ}
use Rattle.mesh_plane.specs.Plane.{Point}
use Rattle.mesh_num.specs.Paths.{paths_of}
use Rattle.mesh_arc.specs.declared.arc.ArcOptions.{ArcOptions}
use Rattle.mesh_join.specs.Styles.{OutlineStyle, style_of}
use Rattle.mesh_join.specs.VariableStyles.{Vertex}
use Rattle.mesh_stroke.specs.Styles.{StrokeStyle, stroke_style_of}
use Rattle.mesh_drawing.specs.declared.drawing.Drawing.{Drawing}
use Rattle.mesh_drawing.specs.declared.drawing.Outline.{Outline}
use Rattle.mesh_drawing.specs.declared.drawing.Stroke.{Stroke}
use Rattle.mesh_drawing.specs.declared.drawing.VariableStroke.{VariableStroke}

-- what is drawn: the outline of contours in a style, the stroke in a style of paths that are all closed or all open, or
-- the stroke, with such arcs, of paths of vertices with widths
pub data Drawn : Type 0 where
  as_outline : OutlineStyle → List (List Point) → Drawn
  as_stroke : StrokeStyle → Bool → List (List Point) → Drawn
  as_variable_stroke : ArcOptions → List (List Vertex) → Drawn

-- what the code's own types stand for, where `value` is the whole number that a coordinate stands for
abbrev pub drawn_outline : {C W U : Type 0} → (C → ℤ) → Outline C W U → Drawn
drawn_outline value outline = as_outline (style_of value outline.style) (paths_of outline.paths.items)

abbrev pub drawn_stroke : {C W U : Type 0} → (C → ℤ) → Stroke C W U → Drawn
drawn_stroke value stroke = as_stroke (stroke_style_of value stroke.style) stroke.closed (paths_of stroke.paths.items)

abbrev pub drawn_variable_stroke : {C W U : Type 0} → VariableStroke C W U → Drawn
drawn_variable_stroke stroke = as_variable_stroke stroke.style.arc (paths_of stroke.paths.items)

abbrev pub drawn_of : {C W U : Type 0} → (C → ℤ) → Drawing C W U → Drawn
drawn_of value (Drawing.Outline outline) = drawn_outline value outline
drawn_of value (Drawing.Stroke stroke) = drawn_stroke value stroke
drawn_of value (Drawing.VariableStroke stroke) = drawn_variable_stroke stroke
