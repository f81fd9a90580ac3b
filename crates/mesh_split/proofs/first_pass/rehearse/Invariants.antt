use Rattle.mesh_split.specs.Counting.{CountsAtMost}
use Rattle.mesh_split.proofs.first_pass.rehearse.Given as goal

abbrev pub invariant-loop-rehearsal : goal.invariant-loop-rehearsal
invariant-loop-rehearsal l = CountsAtMost l._rehearsal l.fn.noted l.fn.count l.count
