use Rattle.std.proofs.Common.{take}
use Rattle.mesh_lattice.specs.Reach.{AreEdgesSafe}
use Rattle.mesh_below.proofs.checks.are_safe.Given as goal

abbrev pub invariant-loop-e : goal.invariant-loop-e
invariant-loop-e l = AreEdgesSafe l.unit (take l.e-index l.edges)
