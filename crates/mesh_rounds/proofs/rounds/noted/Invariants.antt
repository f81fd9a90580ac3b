use Rattle.std.proofs.Common.{take}
use Rattle.mesh_rounds.specs.Private.Groups.{noted_in}
use Rattle.mesh_rounds.specs.Private.Rounds.{Keeps}
use Rattle.mesh_rounds.proofs.rounds.noted.Given as goal

abbrev pub invariant-loop-pair : goal.invariant-loop-pair
invariant-loop-pair l = Keeps (noted_in (take l.pair-index l.pairs)) l.noted.items
