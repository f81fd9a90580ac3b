use Rattle.mesh_shapes.proofs.Tracing.{TakenTo}
use Rattle.mesh_shapes.proofs.trace.contours_of.Given as goal

abbrev pub invariant-loop-first : goal.invariant-loop-first
invariant-loop-first l = TakenTo l.edges l.fn.used l.used l.contours.items l.first
