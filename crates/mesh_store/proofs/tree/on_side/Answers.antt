use Rattle.std.proofs.Common.{◌≡◌, true, ◌∙◌, sym}
use Rattle.std.proofs.lemmas.Bool.{true≢false}
use Rattle.mesh_plane.specs.Plane.{Edge}
use Rattle.mesh_store.specs.Cells.{reaches}
use Rattle.mesh_store.proofs.Listing.{kept_none, kept_pushed, kept_left_out, kept_all}
use Rattle.mesh_store.proofs.tree.on_side.Goals as goal
use Rattle.mesh_store.proofs.tree.on_side.Goals.{then-reaches+in_ok-push, else-reaches}

pub loop-e-init : goal.loop-e-init
loop-e-init c = kept_none (λ (x : Edge). reaches c.args.cut x c.args.below ≡ true) c.args.listed.now c.in_ok-left.left.items

pub loop-e-preserved : goal.loop-e-preserved
loop-e-preserved c =
    elim c.if-reaches.branch [
      | then-reaches+in_ok-push w ↦ rw w.left-is (rw w.in_ok-push.ensures.items (kept_pushed (λ (x : Edge). reaches c.args.cut x c.args.below ≡ true) c.args.listed.now c.loop-e.left.items c.loop-e.e-index _ c.loop-e.invariant))
      | else-reaches w ↦ rw w.left-is (kept_left_out (λ (x : Edge). reaches c.args.cut x c.args.below ≡ true) c.args.listed.now c.loop-e.left.items c.loop-e.e-index _ (λ h. true≢false (sym h ∙ sym c.reaches.ensures ∙ w.if-reaches.false)) c.loop-e.invariant)
    ]

pub returns : goal.returns
returns c = kept_all (λ (x : Edge). reaches c.args.cut x c.args.below ≡ true) c.args.listed.now c.loop-e.left.items c.loop-e.e-index c.loop-e-test.false c.loop-e.invariant
