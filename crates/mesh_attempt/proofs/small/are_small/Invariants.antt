use Rattle.std.proofs.Common.{take}
use Rattle.std.specs.List.{All}
use Rattle.mesh_attempt.specs.Attempts.{IsSmall}
use Rattle.mesh_attempt.proofs.small.are_small.Given as goal

abbrev pub invariant-loop-e : goal.invariant-loop-e
invariant-loop-e l = All IsSmall (take l.e-index l.edges)
