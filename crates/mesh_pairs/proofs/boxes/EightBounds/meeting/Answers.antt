use Rattle.std.proofs.Common.{◌≡◌, ◌↔◌, false, inl, inr, subst, arith}
use Rattle.mesh_pairs.specs.declared.boxes.Bounds.{Bounds}
use Rattle.mesh_pairs.specs.Boxes.{lane, DoMeet}
use Rattle.mesh_pairs.proofs.Rectangles.{places_few, places_more}
use Rattle.mesh_pairs.proofs.boxes.EightBounds.meeting.Goals as goal
use Rattle.mesh_pairs.proofs.boxes.EightBounds.meeting.Goals.{then-are_apart, else-are_apart}

pub loop-k-preserved : goal.loop-k-preserved
loop-k-preserved c =
    let is : (c.are_apart.result ≡ false) ↔ DoMeet (lane c.args.self.now c.loop-k.k) c.args.bounds = subst (λ (b : Bounds). (c.are_apart.result ≡ false) ↔ DoMeet b c.args.bounds) c.lane.ensures c.are_apart.ensures in
    record {
      places = elim c.if-are_apart.branch [
        | then-are_apart w ↦ places_more c.args.self.now c.args.bounds c.loop-k.places c.if-are_apart.places c.loop-k.k c.are_apart.result (omega arith) c.loop-k.invariant.few is (inl (w.if-are_apart.true, w.places-is)) c.loop-k.invariant.places
        | else-are_apart w ↦ places_more c.args.self.now c.args.bounds c.loop-k.places c.if-are_apart.places c.loop-k.k c.are_apart.result (omega arith) c.loop-k.invariant.few is (inr (w.if-are_apart.false, w.places-is)) c.loop-k.invariant.places
      ];
      few = elim c.if-are_apart.branch [
        | then-are_apart w ↦ places_few c.loop-k.places c.if-are_apart.places c.loop-k.k (omega arith) c.loop-k.invariant.few (inl w.places-is)
        | else-are_apart w ↦ places_few c.loop-k.places c.if-are_apart.places c.loop-k.k (omega arith) c.loop-k.invariant.few (inr w.places-is)
      ];
    }

pub returns-clause-places : goal.returns-clause-places
returns-clause-places c = λ k h. c.loop-k.invariant.places k (omega arith)
