use Rattle.std.proofs.Common.{ℕ, ◌<◌, ◌≤◌}
use Rattle.mesh_pairs.specs.Private.Trees.{below_at}
use Rattle.mesh_pairs.proofs.tree.last_below.Given as goal

abbrev pub invariant-loop-k : goal.invariant-loop-k
invariant-loop-k l = (j : ℕ) → l.from ≤ j → j < l.k → (below_at l.below j).last ≤ l.last
