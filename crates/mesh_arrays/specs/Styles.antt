-- What styles and options in plain numbers stand for. Lengths are of a type with `unit`, which holds the whole numbers
-- from `-2 * unit` on that are below `2 * unit`; `point_of` is what the numbers for a point stand for.
use Rattle.std.specs.Prelude.{ℕ, ◌==◌, Bool, true, false, if◌then◌else◌, ℤ, List, map, Option, Some, None, option_map}
use Rattle.mesh_plane.specs.Plane.{Point}
use Rattle.mesh_shapes.specs.Resolution.{Choices}
use Rattle.mesh_arc.specs.declared.arc.ArcOptions.{ArcOptions}
use Rattle.mesh_join.specs.Styles.{JoinStyle, OutlineStyle}
use Rattle.mesh_join.specs.declared.style.IntLineJoin.{IntLineJoin}
use Rattle.mesh_join.specs.declared.style.IntLineJoin.TheVariants.{Bevel, Miter, Round}
use Rattle.mesh_join.specs.declared.style.StrokeSide.{StrokeSide}
use Rattle.mesh_join.specs.declared.style.StrokeSide.TheVariants.{Both, Left, Right}
use Rattle.mesh_stroke.specs.Caps.{CapKind}
use Rattle.mesh_stroke.specs.Styles.{StrokeStyle}
use Rattle.mesh_drawing.specs.Parts.{both, where_fits, where_area_fits, outline_style_with, uncapped_with}
use Rattle.mesh_drawing.specs.Parts.{stroke_style_with, choices_with}
use Rattle.mesh_arrays.specs.declared.options.FlatOptions.{FlatOptions}
use Rattle.mesh_arrays.specs.declared.styles.FlatArc.{FlatArc}
use Rattle.mesh_arrays.specs.declared.styles.FlatCap.{FlatCap}
use Rattle.mesh_arrays.specs.declared.styles.FlatJoin.{FlatJoin}
use Rattle.mesh_arrays.specs.declared.styles.FlatOutlineStyle.{FlatOutlineStyle}
use Rattle.mesh_arrays.specs.declared.styles.FlatStrokeStyle.{FlatStrokeStyle}

-- the options of an arc
abbrev pub arc_of : FlatArc → ArcOptions
arc_of arc = record { max_step = arc.max_step; rotation_precision = arc.precision }

-- the kind of join: 0 a bevel, 1 a miter, 2 an arc
abbrev pub join_in : FlatJoin → Option IntLineJoin
join_in join =
    if join.kind == 0 then Some Bevel
    else (if join.kind == 1 then Some (Miter join.miter_angle)
    else (if join.kind == 2 then Some (Round (arc_of join.arc)) else None))

-- the kind of cap: 0 a butt, 1 a square, 2 an arc, 3 edges through these points
abbrev pub cap_in : {F : Type 0} → (F → Point) → FlatCap → List F → Option CapKind
cap_in point_of cap points =
    if cap.kind == 0 then Some CapKind.Butt
    else (if cap.kind == 1 then Some CapKind.Square
    else (if cap.kind == 2 then Some (CapKind.Round (arc_of cap.arc))
    else (if cap.kind == 3 then Some (CapKind.Custom (map point_of points)) else None)))

-- the side of a path: 0 both, 1 the left, 2 the right
abbrev pub side_in : ℕ → Option StrokeSide
side_in n = if n == 0 then Some Both else (if n == 1 then Some Left else (if n == 2 then Some Right else None))

-- whether a number says no, 0, or yes, 1
abbrev pub flag_in : ℕ → Option Bool
flag_in n = if n == 0 then Some false else (if n == 1 then Some true else None)

-- the style of outlines
abbrev pub outline_style_in : ℕ → FlatOutlineStyle → Option OutlineStyle
outline_style_in unit style =
    option_map outline_style_with
    (both (join_in style.join)
    (both (Some style.join.miter_min_turn)
    (both (where_fits unit style.outer_offset) (where_fits unit style.inner_offset))))

-- the width, the side and the joins of strokes
abbrev pub uncapped_in : ℕ → FlatStrokeStyle → Option (ℤ × (StrokeSide × JoinStyle))
uncapped_in unit style =
    option_map uncapped_with
    (both (join_in style.join)
    (both (Some style.join.miter_min_turn) (both (side_in style.side) (where_fits unit style.width))))

-- the style of strokes, with the points of custom caps at the start and the end
abbrev pub stroke_style_in : {F : Type 0} →
    ℕ → (F → Point) → FlatStrokeStyle → List F × List F → Option StrokeStyle
stroke_style_in unit point_of style points =
    option_map stroke_style_with
    (both (uncapped_in unit style)
    (both (cap_in point_of style.start_cap points.0) (cap_in point_of style.end_cap points.1)))

-- the choices that options give
abbrev pub choices_in : ℕ → FlatOptions → Option Choices
choices_in unit options =
    option_map choices_with
    (both (where_area_fits unit options.min_area) (both (flag_in options.clockwise) (flag_in options.collinear)))
