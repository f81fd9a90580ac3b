use Rattle.std.proofs.Common.{◌≡◌, ◌∙◌, ap, arith, get_or, take}
use Rattle.std.specs.Prelude.{ℤ, pos}
use Rattle.std.proofs.lemmas.Int.{ints}
use Rattle.std.proofs.lemmas.List.{get_or_default}
use Rattle.mesh_plane.proofs.Sums.{sum_least}
use Rattle.mesh_lattice.specs.Boundary.{middle}
use Rattle.mesh_lattice.specs.Counted.{Counted, size}
use Rattle.mesh_boundary.specs.Private.CountedSides.{counted_winding, sides_by, sides_of}
use Rattle.mesh_boundary.proofs.RowSums.{row_sum, row_size}
use Rattle.mesh_boundary.proofs.SidesCode.{size_least, next_part}
use Rattle.mesh_boundary.proofs.side_finder.row_sides.Goals as goal

pub sides_of-requires-clause-room : goal.sides_of-requires-clause-room
sides_of-requires-clause-room c =
    omega (arith, ints, row_size c.args.rows.now.marks.items c.args.rows.now.lists.items c.args.segments.now c.row.result.now c.middle.result c.requires.rows c.row.ensures, c.requires.room)

pub sides_of-requires-clause-count_small : goal.sides_of-requires-clause-count_small
sides_of-requires-clause-count_small c =
    let xs = c.args.segments.now in
    omega (arith, ints, next_part size size_least xs c.args.i (((pos 0, pos 0), (pos 0, pos 0)), pos 0) c.requires.in_range, sum_least size size_least (take c.args.i xs), c.requires.room)

pub returns : goal.returns
returns c = λ d.
    let xs = c.args.segments.now in
    let k : Counted = get_or xs c.args.i (((pos 0, pos 0), (pos 0, pos 0)), pos 0) in
    let sum = row_sum c.args.rows.now.marks.items c.args.rows.now.lists.items xs c.row.result.now c.middle.result c.requires.rows c.row.ensures in
    let beside : counted_winding (middle k.0) c.row.result.now ≡ counted_winding (middle k.0) xs = rw c.middle.ensures at sum in
    c.sides_of.ensures ∙ (ap (λ (w : ℤ). sides_by w k) beside ∙ ap (sides_of xs) (get_or_default xs c.args.i _ d c.requires.in_range))
