use Rattle.std.proofs.Common.{◌≡◌, length}
use Rattle.mesh_pairs.specs.Private.Trees.{AreBlocks, AreRuns}
use Rattle.mesh_pairs.proofs.tree.Tree.add_runs.Given as goal

abbrev pub invariant-loop-run : goal.invariant-loop-run
invariant-loop-run l = record {
  boxes : l.self.boxes ≡ l.initial.self.boxes;
  same : l.self.runs ≡ l.initial.self.runs;
  many : length l.self.blocks.items ≡ l.run;
  runs : AreRuns l.self l.run;
  blocks : AreBlocks l.self;
}
