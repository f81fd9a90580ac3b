use Rattle.std.proofs.Common.{◌+◌, ◌*◌}
use Rattle.mesh_nets.specs.Private.PairsSoFar.{AreClearancesBefore}
use Rattle.mesh_nets.proofs.Outlined.{nets_in}
use Rattle.mesh_nets.proofs.nets.clearances.Given as goal

abbrev pub invariant-loop-first : goal.invariant-loop-first
invariant-loop-first g l = AreClearancesBefore (nets_in l.nets) (l.distance * l.distance) l.first (l.first + 1) l.found.items
