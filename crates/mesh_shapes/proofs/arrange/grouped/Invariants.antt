use Rattle.mesh_shapes.specs.Vectors.{shapes_points}
use Rattle.mesh_shapes.proofs.Taking.{AreShapesTo}
use Rattle.mesh_shapes.proofs.arrange.grouped.Given as goal

abbrev pub invariant-loop-h : goal.invariant-loop-h
invariant-loop-h l = AreShapesTo l.fn.rings l.rings l.homes.items l.clockwise l.h (shapes_points l.shapes.items)
