-- How far drawings reach, and whether they stay in range. Coordinates are of a type with `unit`.
use Rattle.std.specs.Prelude.{ℕ, ℤ}
use Rattle.mesh_join.specs.Joins.{outline_padding}
use Rattle.mesh_offset.specs.Padding.{ArePathsSafe}
use Rattle.mesh_stroke.specs.Styles.{stroke_padding}
use Rattle.mesh_variable_stroke.specs.Strokable.{padding_of, ArePathsStrokable}
use Rattle.mesh_drawing.specs.Drawn.{Drawn, as_outline, as_stroke, as_variable_stroke}

-- how far a drawing reaches from its points at most, in each coordinate
abbrev pub padding_in : Drawn → ℤ
padding_in (as_outline style paths) = outline_padding style
padding_in (as_stroke style closed paths) = stroke_padding style
padding_in (as_variable_stroke options paths) = padding_of paths

-- each of its points, moved by the padding, stays in the safe range
abbrev pub DoesStayInRange : ℕ → Drawn → Type 0
DoesStayInRange unit (as_outline style paths) = ArePathsSafe unit (outline_padding style) paths
DoesStayInRange unit (as_stroke style closed paths) = ArePathsSafe unit (stroke_padding style) paths
DoesStayInRange unit (as_variable_stroke options paths) = ArePathsStrokable unit paths
