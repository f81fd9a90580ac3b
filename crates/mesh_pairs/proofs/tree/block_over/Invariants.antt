use Rattle.std.proofs.Common.{ℕ, ◌<◌, ◌≤◌}
use Rattle.mesh_pairs.specs.Boxes.{Covers}
use Rattle.mesh_pairs.specs.Private.Trees.{AreLanes, box_at, small_bounds}
use Rattle.mesh_pairs.proofs.tree.block_over.Given as goal

abbrev pub invariant-loop-k : goal.invariant-loop-k
invariant-loop-k l = record {
  lanes : AreLanes l.lanes l.boxes l.from l.k;
  covers : (j : ℕ) → l.from ≤ j → j < l.k → Covers l.bounds (box_at l.boxes j);
  small : ((j : ℕ) → l.from ≤ j → j < l.to → Covers small_bounds (box_at l.boxes j)) → Covers small_bounds l.bounds;
}
