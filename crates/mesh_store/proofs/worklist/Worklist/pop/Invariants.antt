use Rattle.std.proofs.Common.{◌≡◌, length}
use Rattle.mesh_store.proofs.worklist.Worklist.pop.Given as goal

abbrev pub invariant-loop-ends : goal.invariant-loop-ends
invariant-loop-ends l = l.self-inside.counts.entries ≡ l.initial.self-inside.counts.entries

abbrev pub decreases-loop-ends : goal.decreases-loop-ends
decreases-loop-ends l = length l.self-inside.latest.items
