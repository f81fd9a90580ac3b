use Rattle.std.specs.Prelude.{◌≡◌, true, unsigned_abs}
use Rattle.mesh_store.specs.Steps.{IsPile, AllClear, work}
use Rattle.mesh_split.proofs.first_pass.attempt.Given as goal

abbrev pub invariant-loop-s : goal.invariant-loop-s
invariant-loop-s l = record {
  same : l.count ≡ l.fn.count;
  pile : IsPile l.fn.edges l.splitter.log l.splitter.todo l.splitter.live;
  clear : l.is_clear ≡ true → AllClear l.splitter.live;
}

abbrev pub decreases-loop-s : goal.decreases-loop-s
decreases-loop-s l = unsigned_abs (work l.splitter.todo l.splitter.live)
