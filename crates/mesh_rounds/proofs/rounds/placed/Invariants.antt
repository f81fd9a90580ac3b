use Rattle.std.proofs.Common.{take}
use Rattle.mesh_rounds.specs.Private.Rounds.{Keeps, keyed_edges}
use Rattle.mesh_rounds.proofs.rounds.placed.Given as goal

abbrev pub invariant-loop-e : goal.invariant-loop-e
invariant-loop-e l = Keeps (take l.e-index l.edges) (keyed_edges l.placed.items)
