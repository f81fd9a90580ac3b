use Rattle.std.proofs.Common.{take}
use Rattle.mesh_rounds.specs.Private.Rounds.{Keeps, keyed_edges}
use Rattle.mesh_rounds.proofs.rounds.distinct.Given as goal

abbrev pub invariant-loop-k : goal.invariant-loop-k
invariant-loop-k l = Keeps (keyed_edges (take l.k-index l.placed)) l.edges.items
