use Rattle.std.proofs.Common.{take}
use Rattle.mesh_rounds.specs.Private.Groups.{AreWithin}
use Rattle.mesh_rounds.proofs.groups.box_of.Given as goal

abbrev pub invariant-loop-e : goal.invariant-loop-e
invariant-loop-e l = AreWithin l.bounds (take l.e-index l.edges)
