use Rattle.std.specs.Prelude.{IsTrue}
use Rattle.mesh_attempt.specs.Attempts.{AreCut}
use Rattle.mesh_clear.specs.AllClear.{AreAllClear}
use Rattle.mesh_ahead.specs.Counting.{CountsEach}
use Rattle.mesh_ahead.proofs.settling.settle_anew.Given as goal

abbrev pub invariant-loop-time : goal.invariant-loop-time
invariant-loop-time l = record {
  cut : AreCut l.fn.edges l.cut;
  clear : IsTrue l.verdict.clear → AreAllClear l.cut.paths;
  counted : CountsEach l._time l.before l.fn.edges l.initial.count l.count;
}
