-- Polygons and strokes along their boundaries. Coordinates are of a type with `unit`, distances in 64ths of a grid unit.
use Rattle.std.specs.Prelude.{ℕ, ◌++◌, ◌||◌, ◌&&◌, Bool, true, not, List}
use Rattle.mesh_plane.specs.Plane.{Point, Edge}
use Rattle.mesh_plane.specs.Winding.{winding}
use Rattle.mesh_lattice.specs.FillRules.{filled_by}
use Rattle.mesh_offset.specs.Padding.{ArePathsSafe}
use Rattle.mesh_offset.specs.Regions.{wind_above}
use Rattle.mesh_stroke.specs.Regions.{all_pieces}
use Rattle.mesh_stroke.specs.Resolved.{all_edges}
use Rattle.mesh_stroke.specs.Styles.{StrokeStyle, stroke_padding}
use Rattle.mesh_boolean.specs.Booleans.{ArePathsInRange, closed_edges}
use Rattle.mesh_boolean.specs.Rules.{winding_rule_for}
use Rattle.mesh_boolean.specs.declared.rule.BooleanFillRule.{BooleanFillRule}
use Rattle.mesh_boolean.specs.declared.rule.BooleanRule.{BooleanRule}
use Rattle.mesh_drawing.specs.Drawn.{as_stroke}
use Rattle.mesh_operands.specs.Nearness.{alike}
use Rattle.mesh_operands.specs.Operands.{Combined, as_boolean, as_drawing, as_paths}

-- ---- where it is exact

-- the edges of contours, and those of the closed strokes along them
abbrev pub buffer_edges : ℕ → StrokeStyle → List (List Point) → List Edge
buffer_edges unit style contours = closed_edges contours ++ all_edges unit style true contours

-- contours fill the point
abbrev pub is_filled : BooleanFillRule → List (List Point) → ℕ → Point → Bool
is_filled fill contours m q = filled_by (winding_rule_for fill) (winding m q (closed_edges contours))

-- the closed strokes along contours cover the point: the windings of all their pieces add up to more than 0
abbrev pub is_stroked : ℕ → StrokeStyle → List (List Point) → ℕ → Point → Bool
is_stroked unit style contours m q = wind_above (all_pieces unit style true contours) m q

-- contours fill the point, or a stroke covers it
abbrev pub is_buffered : ℕ → BooleanFillRule → StrokeStyle → List (List Point) → ℕ → Point → Bool
is_buffered unit fill style contours m q = is_filled fill contours m q || is_stroked unit style contours m q

-- contours fill the point, and no stroke covers it
abbrev pub is_inset : ℕ → BooleanFillRule → StrokeStyle → List (List Point) → ℕ → Point → Bool
is_inset unit fill style contours m q = is_filled fill contours m q && not (is_stroked unit style contours m q)

-- ---- how it is made

-- a boolean of what contours fill and of the closed strokes along them
abbrev pub with_strokes : BooleanRule → BooleanFillRule → StrokeStyle → List (List Point) → Combined
with_strokes rule fill style contours =
    as_boolean rule (alike fill) (as_paths contours) (as_drawing (as_stroke style true contours))

-- ---- what may be buffered

-- each point of contours is in the safe range, and each point of the strokes along them
abbrev pub MayBeBuffered : ℕ → StrokeStyle → List (List Point) → Type 0
MayBeBuffered unit style contours = ArePathsInRange unit contours × ArePathsSafe unit (stroke_padding style) contours
