-- Numbers that fit a type, and styles and options out of their parts. Coordinates are of a type with `unit`, which holds
-- the whole numbers from `-2 * unit` on that are below `2 * unit`; areas are of one that holds those without sign below
-- `16 * unit * unit`.
use Rattle.std.specs.Prelude.{ℕ, ◌*◌, ◌&&◌, Bool, if◌then◌else◌, ℤ, pos, neg_ℤ, int_le, int_lt, nat_lt}
use Rattle.std.specs.Prelude.{Option, Some, None, option_map, option_and_then}
use Rattle.mesh_shapes.specs.Resolution.{Choices}
use Rattle.mesh_join.specs.Styles.{JoinStyle, OutlineStyle}
use Rattle.mesh_join.specs.declared.style.IntLineJoin.{IntLineJoin}
use Rattle.mesh_join.specs.declared.style.IntStrokeStyle.{IntStrokeStyle}
use Rattle.mesh_join.specs.declared.style.StrokeSide.{StrokeSide}
use Rattle.mesh_offset.specs.Radii.{radius_of}
use Rattle.mesh_stroke.specs.Caps.{CapKind}
use Rattle.mesh_stroke.specs.Styles.{StrokeStyle}

-- both values, where there are both
abbrev pub both : {A B : Type 0} → Option A → Option B → Option (A × B)
both a b = option_and_then (λ x. option_map (λ y. (x, y)) b) a

-- the number, where it fits a type with `unit`
abbrev pub where_fits : ℕ → ℤ → Option ℤ
where_fits unit z = if int_le (neg_ℤ (pos (2 * unit))) z && int_lt z (pos (2 * unit)) then Some z else None

-- the number, where it fits the type of areas
abbrev pub where_area_fits : ℕ → ℕ → Option ℕ
where_area_fits unit n = if nat_lt n (16 * unit * unit) then Some n else None

-- a join, the turn below which a miter is a bevel, and the outer and the inner offset, as a style
abbrev pub outline_style_with : IntLineJoin × (ℕ × (ℤ × ℤ)) → OutlineStyle
outline_style_with said = record {
  outer_offset = said.1.1.0;
  inner_offset = said.1.1.1;
  join = record { kind = said.0; min_turn = said.1.0 };
}

-- a join, the turn below which a miter is a bevel, a side and a width, as the width, the side and the joins of a stroke
abbrev pub uncapped_with : IntLineJoin × (ℕ × (StrokeSide × ℤ)) → ℤ × (StrokeSide × JoinStyle)
uncapped_with said = (said.1.1.1, (said.1.1.0, record { kind = said.0; min_turn = said.1.0 }))

-- the width, the side and the joins of a stroke, in the code's own style
abbrev pub uncapped_of : {C W U : Type 0} → (C → ℤ) → IntStrokeStyle C W U → ℤ × (StrokeSide × JoinStyle)
uncapped_of value style =
    (value style.width, (style.side, record { kind = style.join; min_turn = style.miter_min_turn }))

-- a width, a side and joins, and the caps at the start and the end, as a style
abbrev pub stroke_style_with : (ℤ × (StrokeSide × JoinStyle)) × (CapKind × CapKind) → StrokeStyle
stroke_style_with said = record {
  radius = radius_of said.0.0;
  side = said.0.1.0;
  join = said.0.1.1;
  start = said.1.0;
  end = said.1.1;
}

-- a least area, whether contours run clockwise, and whether straight-through vertices stay
abbrev pub choices_with : ℕ × (Bool × Bool) → Choices
choices_with said = record { least_area = said.0; clockwise = said.1.0; all_vertices = said.1.1 }
