use Rattle.std.proofs.Common.{◌≡◌, ℕ, ◌+◌, ◌*◌, ◌%◌, ◌<◌, ◌↔◌, inl, inr, ⊎_elim, sym, ap, subst, arith}
use Rattle.std.proofs.lemmas.Nat.Bits.{bit_at-zero}
use Rattle.std.specs.Int.{bit_at}
use Rattle.mesh_pairs.specs.Boxes.{IsIn}
use Rattle.mesh_pairs.specs.Pairs.{AreBoxesApart, IsSettled, ends_at, stay_clear}
use Rattle.mesh_pairs.proofs.Descents.{same_or_not}
use Rattle.mesh_pairs.proofs.Listing.{grows_all, grows_itself, settled_kept}
use Rattle.mesh_pairs.proofs.Strips.{clear_by_boxes}
use Rattle.mesh_pairs.proofs.pairs.Pairs.find_in.Goals as goal

pub loop-places-init : goal.loop-places-init
loop-places-init c = record {
  few = c.meeting_after-places.ensures.few;
  later = λ k place listed.
      let l = c.meeting_after-places.ensures.later k place listed in
      (l.0, omega (arith, l.1, c.requires.tree.boxes.many));
  listed = c.requires.listed;
  grows = grows_itself c.args.self.now;
  left = λ j at order within. ⊎_elim
      (λ (h : IsIn c.meeting_after-places.result (j % 8)). inl h)
      (λ (h : AreBoxesApart (ends_at c.args.edges.now c.args.i) (ends_at c.args.edges.now j)). inr (stay_clear (clear_by_boxes 8 (ends_at c.args.edges.now c.args.i) (ends_at c.args.edges.now j) h)))
      (c.meeting_after-places.ensures.all c.args.edges.now j c.requires.tree.boxes at order within);
}

still : (places places' k j : ℕ) → IsIn places k → ((i : ℕ) → i < 8 → (i ≡ k → ⊥) → IsIn places' i ↔ IsIn places i) → j < 8 → IsIn places' j → IsIn places j
still places places' k j was others place listed = ⊎_elim
    (λ (e : j ≡ k). subst (IsIn places) (sym e) was)
    (λ (n : j ≡ k → ⊥). (others j place n).0 listed)
    (same_or_not j k)

pub loop-places-preserved : goal.loop-places-preserved
loop-places-preserved c =
    let v = c.loop-places.invariant in
    let taken = c.take_first.ensures in
    let k : ℕ = c.take_first.result in
    let more = c.in_ok-judge.ensures in
    record {
      few = omega (arith, v.few, taken.less);
      later = λ n place listed. v.later n place (still c.loop-places.places c.take_first.new.places k n taken.was taken.others place listed);
      listed = more.listed;
      grows = grows_all c.args.self.now c.loop-places.self c.judge.new.self v.grows more.grows;
      left = λ j at order within. ⊎_elim
          (λ (h : IsIn c.loop-places.places (j % 8)). ⊎_elim
          (λ (e : j % 8 ≡ k).
          let is : c.args.run * 8 + k ≡ j = omega arith in
          inr (subst (λ (n : ℕ). IsSettled c.args.edges.now c.judge.new.self.meetings.items c.judge.new.self.close.items c.args.i n) is more.settled))
          (λ (n : j % 8 ≡ k → ⊥). inl ((taken.others (j % 8) (omega arith) n).1 h))
          (same_or_not (j % 8) k))
          (λ (h : IsSettled c.args.edges.now c.loop-places.self.meetings.items c.loop-places.self.close.items c.args.i j).
          inr (settled_kept c.args.edges.now c.loop-places.self c.judge.new.self c.args.i j more.grows h))
          (v.left j at order within);
    }

pub returns-clause-settled : goal.returns-clause-settled
returns-clause-settled c = λ j at order within. ⊎_elim
    (λ (h : IsIn c.loop-places.places (j % 8)). absurd (omega (arith, h, ap (λ (n : ℕ). bit_at n (j % 8)) c.loop-places-test.false, bit_at-zero (j % 8))))
    (λ (h : IsSettled c.args.edges.now c.loop-places.self.meetings.items c.loop-places.self.close.items c.args.i j). h)
    (c.loop-places.invariant.left j at order within)
