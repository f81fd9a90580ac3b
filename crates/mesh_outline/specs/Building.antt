-- What the outline's builder asks.
use Rattle.std.specs.Prelude.{ℕ, ℤ, Option}
use Rattle.mesh_plane.specs.Plane.{Point}
use Rattle.mesh_num.specs.Rectangle.{IsSafeWidened}
use Rattle.mesh_join.specs.Joins.{offset_padding}
use Rattle.mesh_join.specs.Styles.{OffsetJoin, OutlineStyle}
use Rattle.mesh_outline.specs.Kinds.{kind_for, way_for}

-- how a contour moves, by its double area: as its kind does
abbrev pub style_for : OutlineStyle → ℤ → Option OffsetJoin
style_for style area = way_for style (kind_for area)

-- a point that stays safe where it moves by at most the padding of the offset's joins
abbrev pub IsMovable : ℕ → OffsetJoin → Point → Type 0
IsMovable unit style p = IsSafeWidened unit (offset_padding style) p
