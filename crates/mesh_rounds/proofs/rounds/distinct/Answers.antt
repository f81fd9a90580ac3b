use Rattle.mesh_rounds.proofs.Rounding.{keeps_alone, keeps_left_out}
use Rattle.mesh_rounds.proofs.rounds.distinct.Goals as goal
use Rattle.mesh_rounds.proofs.rounds.distinct.Goals.{then-not-is_last+in_ok-push, else-not-is_last}

pub loop-k-preserved : goal.loop-k-preserved
loop-k-preserved c =
    elim c.if-not-is_last.branch [
      | then-not-is_last+in_ok-push w ↦ rw w.edges-is (rw w.in_ok-push.ensures.items (keeps_alone c.args.placed.now c.loop-k.k-index _ c.loop-k.edges.items c.loop-k-test.true c.loop-k.invariant))
      | else-not-is_last w ↦ rw w.edges-is (keeps_left_out c.args.placed.now c.loop-k.k-index _ c.loop-k.edges.items c.loop-k-test.true (rw c.deref.ensures.value at c.is_last.ensures w.if-not-is_last.false) c.loop-k.invariant)
    ]
