-- How paths are stroked, as contracts see it.
use Rattle.std.specs.Prelude.{ℤ}
use Rattle.std.specs.Int.{int_max}
use Rattle.mesh_join.specs.Joins.{join_padding}
use Rattle.mesh_join.specs.Styles.{JoinStyle}
use Rattle.mesh_join.specs.declared.style.IntStrokeStyle.{IntStrokeStyle}
use Rattle.mesh_join.specs.declared.style.StrokeSide.{StrokeSide}
use Rattle.mesh_join.specs.declared.style.StrokeSide.TheVariants.{Both, Left, Right}
use Rattle.mesh_stroke.specs.Caps.{CapKind, cap_padding}
use Rattle.mesh_stroke.specs.Kinds.{kind_of}
use Rattle.mesh_offset.specs.Radii.{radius_of}

-- half of the width, rounded up, the side that is drawn, the joins, and the caps of open paths, which a half does not
-- look at
pub record StrokeStyle : Type 0 where
  pub radius : ℤ
  pub side : StrokeSide
  pub join : JoinStyle
  pub start : CapKind
  pub end : CapKind

-- what a style stands for, where `value` is the whole number that a coordinate stands for
abbrev pub stroke_style_of : {C W U : Type 0} → (C → ℤ) → IntStrokeStyle C W U → StrokeStyle
stroke_style_of value style = record {
  radius = radius_of (value style.width);
  side = style.side;
  join = record { kind = style.join; min_turn = style.miter_min_turn };
  start = kind_of style.start_cap;
  end = kind_of style.end_cap;
}

-- how far a stroke reaches that is drawn on this side: the greatest padding of its join and its caps; a half has no cap
abbrev pub padding_on : StrokeSide → JoinStyle → CapKind → CapKind → ℤ → ℤ
padding_on Both join start end radius =
    int_max (join_padding join.kind radius) (int_max (cap_padding start radius) (cap_padding end radius))
padding_on Left join start end radius = join_padding join.kind radius
padding_on Right join start end radius = join_padding join.kind radius

-- how far a stroke reaches from its path in each coordinate
abbrev pub stroke_padding : StrokeStyle → ℤ
stroke_padding style = padding_on style.side style.join style.start style.end style.radius
