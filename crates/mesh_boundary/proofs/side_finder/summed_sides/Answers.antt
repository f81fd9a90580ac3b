use Rattle.std.proofs.Common.{arith, take}
use Rattle.std.proofs.lemmas.Int.{ints}
use Rattle.std.specs.Prelude.{pos}
use Rattle.mesh_lattice.specs.Counted.{size}
use Rattle.mesh_plane.proofs.Sums.{sum_least}
use Rattle.mesh_boundary.proofs.SidesCode.{size_least, next_part}
use Rattle.mesh_boundary.proofs.side_finder.summed_sides.Goals as goal

pub sides_of-requires-clause-count_small : goal.sides_of-requires-clause-count_small
sides_of-requires-clause-count_small c =
    let xs = c.args.segments.now in
    omega (arith, ints, next_part size size_least xs c.args.i (((pos 0, pos 0), (pos 0, pos 0)), pos 0) c.requires.in_range, sum_least size size_least (take c.args.i xs), c.requires.room)
