use Rattle.std.proofs.Common.{◌≡◌, ◌*◌, ◌^◌, take, []}
use Rattle.std.specs.Prelude.{pos, ◌≤ℤ◌}
use Rattle.mesh_store.specs.Steps.{AreCountOf, AllClear, total_weight}
use Rattle.mesh_split.proofs.steps.Splitter.of_edges.Given as goal

abbrev pub invariant-loop-e : goal.invariant-loop-e
invariant-loop-e l = record {
  log : l.splitter.log ≡ [];
  count : AreCountOf (take l.e-index l.fn.edges) l.splitter.todo l.splitter.live [];
  clear : AllClear l.splitter.live;
  none_lives : l.splitter.live ≡ [];
  weight : total_weight l.splitter.todo l.splitter.live ≤ℤ pos (2 ^ 33 * l.e-index);
}
