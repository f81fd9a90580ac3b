use Rattle.std.proofs.Common.{◌*◌}
use Rattle.mesh_nets.specs.Private.PairsSoFar.{AreClearancesBefore}
use Rattle.mesh_nets.proofs.Outlined.{nets_in}
use Rattle.mesh_nets.proofs.nets.add_clearances.Given as goal

abbrev pub invariant-loop-second : goal.invariant-loop-second
invariant-loop-second g l = AreClearancesBefore (nets_in l.nets) (l.distance * l.distance) l.first l.second l.found.items
