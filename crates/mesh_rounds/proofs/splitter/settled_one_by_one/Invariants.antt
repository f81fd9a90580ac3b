use Rattle.std.specs.Prelude.{unsigned_abs}
use Rattle.mesh_split.specs.Counting.{CountsAtMost}
use Rattle.mesh_store.specs.Steps.{IsPile, AllClear, work}
use Rattle.mesh_rounds.proofs.splitter.settled_one_by_one.Given as goal

abbrev pub invariant-loop-s : goal.invariant-loop-s
invariant-loop-s l = record {
  counted : CountsAtMost 44 l.fn.edges l.fn.count l.count;
  pile : IsPile l.fn.edges l.splitter.log l.splitter.todo l.splitter.live;
  clear : AllClear l.splitter.live;
}

abbrev pub decreases-loop-s : goal.decreases-loop-s
decreases-loop-s l = unsigned_abs (work l.splitter.todo l.splitter.live)
