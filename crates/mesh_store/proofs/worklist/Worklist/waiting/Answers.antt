use Rattle.std.specs.Prelude.{pos, ◌<ℤ◌}
use Rattle.mesh_plane.specs.Plane.{Edge}
use Rattle.mesh_store.specs.Steps.{exactly}
use Rattle.mesh_store.proofs.Listing.{kept_pushed, kept_left_out, kept_all}
use Rattle.mesh_store.proofs.Lists.{not_positive}
use Rattle.mesh_store.proofs.worklist.Worklist.waiting.Goals as goal
use Rattle.mesh_store.proofs.worklist.Worklist.waiting.Goals.{then-has+in_ok-push, else-has}

pub loop-e-preserved : goal.loop-e-preserved
loop-e-preserved c =
    let waits = λ (x : Edge). pos 0 <ℤ exactly x c.args.self.now in
    elim c.if-has.branch [
      | then-has+in_ok-push w ↦ rw w.left-is (rw w.in_ok-push.ensures.items (kept_pushed waits c.args.edges.now c.loop-e.left.items c.loop-e.e-index _ c.loop-e.invariant))
      | else-has w ↦
          rw w.left-is (kept_left_out waits c.args.edges.now c.loop-e.left.items c.loop-e.e-index _ (not_positive _ (c.has.ensures.no w.if-has.false)) c.loop-e.invariant)
    ]

pub returns : goal.returns
returns c = kept_all (λ (x : Edge). pos 0 <ℤ exactly x c.args.self.now) c.args.edges.now c.loop-e.left.items c.loop-e.e-index c.loop-e-test.false c.loop-e.invariant
