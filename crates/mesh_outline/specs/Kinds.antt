-- What closed contours are, by the sign of their double area, how each kind moves, and how it is filled.
use Rattle.std.specs.Prelude.{cond, List, ℤ, pos, int_lt, Option, Some, None}
use Rattle.mesh_plane.specs.Plane.{Point}
use Rattle.mesh_lattice.specs.declared.fill.FillRule.{FillRule}
use Rattle.mesh_lattice.specs.declared.fill.FillRule.TheVariants.{Positive, Negative}
use Rattle.mesh_shapes.specs.Contours.{double_area}
use Rattle.mesh_join.specs.Styles.{OffsetJoin, OutlineStyle, outer, inner}
use Rattle.mesh_outline.specs.declared.kind.ContourKind.{ContourKind}
use Rattle.mesh_outline.specs.declared.kind.ContourKind.TheVariants.{Outer, Hole, Ignored}

-- a contour whose double area is above 0 is an outer boundary, one whose double area is below 0 a hole; one of area 0
-- is ignored
abbrev pub kind_for : ℤ → ContourKind
kind_for area = cond (int_lt (pos 0) area) Outer (cond (int_lt area (pos 0)) Hole Ignored)

-- how a contour of this kind moves: outer boundaries and holes by their own offset, others not at all
abbrev pub way_for : OutlineStyle → ContourKind → Option OffsetJoin
way_for style Outer = Some (outer style)
way_for style Hole = Some (inner style)
way_for style Ignored = None

-- the kind of the closed contour through these points
abbrev pub contour_kind : List Point → ContourKind
contour_kind contour = kind_for (double_area contour)

-- the sense in which it is filled: a hole in the negative one
abbrev pub kind_fill : ContourKind → FillRule
kind_fill Outer = Positive
kind_fill Hole = Negative
kind_fill Ignored = Positive
