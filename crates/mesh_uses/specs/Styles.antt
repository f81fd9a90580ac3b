-- The styles that the callers ask for.
use Rattle.std.specs.Prelude.{ℤ}
use Rattle.mesh_join.specs.Gaps.{default_options}
use Rattle.mesh_join.specs.Styles.{OutlineStyle}
use Rattle.mesh_join.specs.declared.style.IntLineJoin.TheVariants.{Bevel, Round}
use Rattle.mesh_join.specs.declared.style.StrokeSide.TheVariants.{Both}
use Rattle.mesh_offset.specs.Radii.{radius_of}
use Rattle.mesh_stroke.specs.Caps.{CapKind}
use Rattle.mesh_stroke.specs.Styles.{StrokeStyle}

-- outlines by this offset, with bevels
abbrev pub bevelled : ℤ → OutlineStyle
bevelled offset = record {
  outer_offset = offset;
  inner_offset = offset;
  join = record { kind = Bevel; min_turn = 59652323 };
}

-- strokes of this width on both sides, with round joins and caps
abbrev pub rounded : ℤ → StrokeStyle
rounded width = record {
  radius = radius_of width;
  side = Both;
  join = record { kind = Round default_options; min_turn = 59652323 };
  start = CapKind.Round default_options;
  end = CapKind.Round default_options;
}
