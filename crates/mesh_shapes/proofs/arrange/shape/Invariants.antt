use Rattle.std.proofs.Common.{take}
use Rattle.mesh_shapes.specs.Vectors.{shape_points}
use Rattle.mesh_shapes.proofs.Taking.{IsMovedTo}
use Rattle.mesh_shapes.proofs.arrange.shape.Given as goal

abbrev pub invariant-loop-i : goal.invariant-loop-i
invariant-loop-i l = IsMovedTo l.fn.rings l.rings l.clockwise l.h (take l.i-index l.members) (shape_points l.shape.items)
