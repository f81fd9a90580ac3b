use Rattle.std.proofs.Common.{rules, ◌≡◌, ◌∙◌, ap, arith, get_or, take}
use Rattle.std.specs.Prelude.{ℤ, pos, ◌*ℤ◌}
use Rattle.std.proofs.lemmas.Int.{ints}
use Rattle.std.proofs.lemmas.List.{get_or_default}
use mir.Syntax.{w128}
use mir.Val.{to_z, of_z}
use Rattle.mesh_plane.specs.Plane.{Point, cross}
use Rattle.mesh_plane.proofs.Sums.{sum_least}
use Rattle.mesh_lattice.specs.Boundary.{middle}
use Rattle.mesh_lattice.specs.Counted.{Counted, size}
use Rattle.mesh_lattice.specs.Marks.{place}
use Rattle.mesh_boundary.specs.Private.CountedSides.{counted_winding, sides_by, sides_of}
use Rattle.mesh_boundary.specs.Private.Slants.{level_of, listed_winding}
use Rattle.mesh_boundary.proofs.SidesCode.{size_least, next_part}
use Rattle.mesh_boundary.proofs.Slants.{slanted_row, slanted_size, slanted_counts}
use Rattle.mesh_boundary.proofs.side_finder.slanted_sides.Goals as goal

pub winding-requires-clause-room : goal.winding-requires-clause-room
winding-requires-clause-room c =
    let s = c.args.rows.now.slant in
    omega (
      arith,
      ints,
      slanted_size s.0 s.1.0 s.1.1 c.args.rows.now.rows.marks.items c.args.rows.now.rows.lists.items c.args.segments.now c.row.result.now _ c.requires.rows c.row.ensures,
      c.requires.room,
    )

pub sides_by-requires-clause-count_small : goal.sides_by-requires-clause-count_small
sides_by-requires-clause-count_small c =
    let xs = c.args.segments.now in
    omega (arith, ints, next_part size size_least xs c.args.i (((pos 0, pos 0), (pos 0, pos 0)), pos 0) c.requires.in_range, sum_least size size_least (take c.args.i xs), c.requires.room)

pub returns : goal.returns
returns c = λ es is split d.
    let xs = c.args.segments.now in
    let s = c.args.rows.now.slant in
    let k : Counted = get_or xs c.args.i (((pos 0, pos 0), (pos 0, pos 0)), pos 0) in
    let slant = c.middle_across-at.ensures.slant in
    let own : to_z w128 (of_z w128 c.winding.result) ≡ c.winding.result = search rules in
    let at : to_z w128 (of_z w128 c.middle_across-at.result) ≡ cross s.0 (middle k.0) = (search rules) ∙ c.middle_across-at.ensures.value in
    let row =
    slanted_row s.0 s.1.0 s.1.1 c.args.rows.now.rows.marks.items c.args.rows.now.rows.lists.items xs c.row.result.now (middle k.0) slant.upwards slant.step c.requires.rows
    (λ v. c.row.ensures v ∙ ap (λ (z : ℤ). (get_or c.args.rows.now.rows.lists.items (place c.args.rows.now.rows.marks.items (pos 2 *ℤ level_of s.1.0 s.1.1 z)) v).items) at) in
    let beside : to_z w128 (of_z w128 c.winding.result) ≡ counted_winding (middle k.0) xs =
    own
    ∙ (c.winding.ensures.value
    ∙ (ap (λ (q : Point). listed_winding s.0 q c.row.result.now) c.middle.ensures
    ∙ (row ∙ slanted_counts es xs split.balanced split.proper is s.0 (middle k.0)))) in
    c.sides_by.ensures ∙ (ap (λ (w : ℤ). sides_by w k) beside ∙ ap (sides_of xs) (get_or_default xs c.args.i _ d c.requires.in_range))
