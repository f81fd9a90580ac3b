-- Styles: how contours are offset, as contracts see it.
use Rattle.std.specs.Prelude.{ℕ, ℤ}
use Rattle.mesh_join.specs.declared.style.IntLineJoin.{IntLineJoin}
use Rattle.mesh_join.specs.declared.style.IntOutlineStyle.{IntOutlineStyle}

-- how outer corners are joined: the kind, and the turn below which a miter is a bevel, in angle bits
pub record JoinStyle : Type 0 where
  pub kind : IntLineJoin
  pub min_turn : ℕ

-- how one contour moves: its offset, and the join of its outer corners
pub record OffsetJoin : Type 0 where
  pub offset : ℤ
  pub join : JoinStyle

-- how the contours of an outline move: outer boundaries, holes, and the join of both
pub record OutlineStyle : Type 0 where
  pub outer_offset : ℤ
  pub inner_offset : ℤ
  pub join : JoinStyle

-- how outer boundaries move
abbrev pub outer : OutlineStyle → OffsetJoin
outer style = record { offset = style.outer_offset; join = style.join }

-- how holes move
abbrev pub inner : OutlineStyle → OffsetJoin
inner style = record { offset = style.inner_offset; join = style.join }

-- what a style stands for, where `value` is the whole number that a coordinate stands for
abbrev pub style_of : {C W U : Type 0} → (C → ℤ) → IntOutlineStyle C W U → OutlineStyle
style_of value style = record {
  outer_offset = value style.outer_offset;
  inner_offset = value style.inner_offset;
  join = record { kind = style.join; min_turn = style.miter_min_turn };
}
