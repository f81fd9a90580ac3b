use Rattle.mesh_nets.specs.Private.Outlines.{AreOutlines}
use Rattle.mesh_nets.proofs.Outlined.{nets_in}
use Rattle.mesh_nets.proofs.outlines.outlines_of.Given as goal

abbrev pub invariant-loop-net : goal.invariant-loop-net
invariant-loop-net g l = AreOutlines (nets_in l.nets) l.net-index l.outlines.items
