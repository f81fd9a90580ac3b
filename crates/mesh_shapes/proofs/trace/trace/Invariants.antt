use Rattle.std.proofs.Common.{length}
use Rattle.mesh_shapes.specs.Private.Unused.{unused}
use Rattle.mesh_shapes.proofs.Tracing.{IsWalk}
use Rattle.mesh_shapes.proofs.trace.trace.Given as goal

abbrev pub invariant-loop-k : goal.invariant-loop-k
invariant-loop-k l = IsWalk l.edges l.fn.used l.used l.first l.points.items l.at

abbrev pub decreases-loop-k : goal.decreases-loop-k
decreases-loop-k l = length (unused l.edges l.used)
