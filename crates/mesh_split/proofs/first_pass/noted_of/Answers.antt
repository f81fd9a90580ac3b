use Rattle.mesh_split.proofs.Among.{among_none, among_pushed}
use Rattle.mesh_split.proofs.first_pass.noted_of.Goals as goal
use Rattle.mesh_split.proofs.first_pass.noted_of.Goals.{then-has_noted+in_ok-push, else-has_noted}

pub loop-e-init : goal.loop-e-init
loop-e-init c = rw c.new-noted.ensures.items (among_none c.args.edges.now)

pub loop-e-preserved : goal.loop-e-preserved
loop-e-preserved c =
    elim c.if-has_noted.branch [
      | then-has_noted+in_ok-push w ↦
          rw w.noted-is (rw w.in_ok-push.ensures.items (rw c.forward-e.ensures (among_pushed c.loop-e.noted.items c.args.edges.now c.loop-e.e-index _ c.loop-e-test.true c.loop-e.invariant)))
      | else-has_noted w ↦ rw w.noted-is c.loop-e.invariant
    ]
