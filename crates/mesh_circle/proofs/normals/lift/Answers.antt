use Rattle.std.proofs.Common.{arith}
use Rattle.mesh_circle.proofs.Lifts.{unit_most, bound_most, zeros_more}
use Rattle.mesh_circle.proofs.normals.lift.Goals as goal

pub overflow_mul-bound : goal.overflow_mul-bound
overflow_mul-bound c = omega (arith, unit_most c.args.unit c.requires.unit)

pub overflow_mul-bound-2 : goal.overflow_mul-bound-2
overflow_mul-bound-2 c = omega (arith, bound_most c.args.unit c.requires.unit)

pub overflow_sub-doublings : goal.overflow_sub-doublings
overflow_sub-doublings c = omega (arith, zeros_more c.args.unit c.args.square c.requires.unit c.requires.most)

pub overflow_sub-doublings-2 : goal.overflow_sub-doublings-2
overflow_sub-doublings-2 c = omega (arith, zeros_more c.args.unit c.args.square c.requires.unit c.requires.most)
