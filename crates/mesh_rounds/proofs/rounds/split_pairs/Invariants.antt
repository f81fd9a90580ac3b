use Rattle.std.proofs.Common.{◌≡◌, true, []}
use Rattle.mesh_split.specs.Growth.{Grows}
use Rattle.mesh_store.specs.Steps.{IsPile}
use Rattle.mesh_rounds.proofs.rounds.split_pairs.Given as goal

abbrev pub invariant-loop-turn : goal.invariant-loop-turn
invariant-loop-turn l = record {
  same : l.count ≡ l.fn.count;
  pile : IsPile l.fn.edges l.splitter.log l.splitter.todo l.splitter.live;
  none_lives : l.splitter.live ≡ [];
  grows : l.lists ≡ true → Grows l.fn.splitter.todo l.splitter.todo l.born.items;
}
