use Rattle.std.proofs.Common.{◌≡◌, sym, ◌∙◌, false}
use Rattle.std.proofs.lemmas.Bool.{true≢false}
use Rattle.mesh_plane.specs.Plane.{Edge}
use Rattle.mesh_store.specs.BoundingBoxes.{is_beside}
use Rattle.mesh_store.proofs.Listing.{kept_pushed, kept_left_out, kept_all}
use Rattle.mesh_rounds.proofs.groups.keep_near.Goals as goal
use Rattle.mesh_rounds.proofs.groups.keep_near.Goals.{then-not-is_beside+in_ok-push, else-not-is_beside}

pub loop-e-preserved : goal.loop-e-preserved
loop-e-preserved c =
    let is_near = λ (x : Edge). is_beside c.args.bounds x ≡ false in
    elim c.if-not-is_beside.branch [
      | then-not-is_beside+in_ok-push w ↦
          rw w.near-is (rw w.in_ok-push.ensures.items (kept_pushed is_near c.args.edges.now c.loop-e.near.items c.loop-e.e-index _ c.loop-e.invariant))
      | else-not-is_beside w ↦
          rw w.near-is
          (kept_left_out is_near c.args.edges.now c.loop-e.near.items c.loop-e.e-index _
          (λ f. true≢false (sym (sym c.is_beside.ensures ∙ w.if-not-is_beside.false) ∙ f)) c.loop-e.invariant)
    ]

pub returns : goal.returns
returns c = kept_all (λ (x : Edge). is_beside c.args.bounds x ≡ false) c.args.edges.now c.loop-e.near.items c.loop-e.e-index c.loop-e-test.false c.loop-e.invariant
