use Rattle.std.proofs.Common.{take}
use Rattle.mesh_rounds.specs.Private.Groups.{noted_in}
use Rattle.mesh_rounds.specs.Private.Rounds.{Keeps}
use Rattle.mesh_rounds.proofs.rounds.fresh.Given as goal

abbrev pub invariant-loop-e : goal.invariant-loop-e
invariant-loop-e l = record { noted : Keeps (noted_in l.pairs) l.all.items; born : Keeps (take l.e-index l.born) l.all.items }
