use Rattle.std.proofs.Common.{◌≡◌, ℕ, ◌+◌, ◌-◌, ◌*◌, ◌/◌, ◌<◌, ◌≤◌, ◌^◌, length}
use Rattle.std.specs.List.{All}
use Rattle.mesh_pairs.specs.Boxes.{Covers}
use Rattle.mesh_pairs.specs.Private.Trees.{AreBlocks, AreBoxesOf, AreRuns, IsUnderSome, small_bounds}
use Rattle.mesh_pairs.proofs.tree.Tree.new.Given as goal

abbrev pub invariant-levels : goal.invariant-levels
invariant-levels l = record {
  boxes : AreBoxesOf l.edges l.tree.boxes.items;
  small : All (Covers small_bounds) l.tree.boxes.items;
  many : l.tree.runs ≡ (length l.tree.boxes.items + 7) / 8;
  runs : AreRuns l.tree l.tree.runs;
  blocks : AreBlocks l.tree;
  above : l.tree.runs ≤ length l.tree.blocks.items;
  start : l.start ≤ length l.tree.blocks.items;
  few : length l.tree.blocks.items + 2 * (length l.tree.blocks.items - l.start) < 2 ^ 32;
  under : (d : ℕ) → d < l.tree.runs → IsUnderSome l.tree l.start d;
}

abbrev pub decreases-levels : goal.decreases-levels
decreases-levels l = length l.tree.blocks.items - l.start
