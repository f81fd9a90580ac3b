use Rattle.std.proofs.Common.{◌≡◌, ℕ, ◌+◌, ◌/◌, ◌<◌, ◌⊎◌, ⊎_elim, List, sym, subst, arith}
use Rattle.std.specs.List.{Contains}
use Rattle.mesh_pairs.specs.Pairs.{AreBoxesApart, IsSettled, ends_at, stay_clear}
use Rattle.mesh_pairs.proofs.Listing.{grows_all, grows_itself, settled_kept}
use Rattle.mesh_pairs.proofs.Strips.{clear_by_boxes}
use Rattle.mesh_pairs.proofs.pairs.Pairs.find_from.Goals as goal

below_or_at : (k n : ℕ) → k < n + 1 → (k < n) ⊎ (k ≡ n)
below_or_at k n h = grind arith

pub loop-i-init : goal.loop-i-init
loop-i-init c = record { listed = c.requires.listed; grows = grows_itself c.args.self.now; settled = λ h j l m. absurd (omega arith) }

pub loop-i-preserved : goal.loop-i-preserved
loop-i-preserved c =
    let v = c.loop-i.invariant in
    let more = c.in_ok-find_of.ensures in
    let i : ℕ = c.loop-i.i in
    record {
      listed = more.listed;
      grows = grows_all c.args.self.now c.loop-i.self c.find_of.new.self v.grows more.grows;
      settled = λ h j l m order within. ⊎_elim
          (λ (b : h < i). settled_kept c.args.edges.now c.loop-i.self c.find_of.new.self h j more.grows (v.settled h j l b order within))
          (λ (e : h ≡ i).
          let after : i < j = omega (arith, e, order) in
          subst (λ (n : ℕ). IsSettled c.args.edges.now c.find_of.new.self.meetings.items c.find_of.new.self.close.items n j) (sym e)
          (⊎_elim
          (λ (has : Contains c.candidates.new.found.items (j / 8)). more.settled j (subst (λ (xs : List ℕ). Contains xs (j / 8)) (sym c.deref.ensures.value) has) after within)
          (λ (apart : AreBoxesApart (ends_at c.args.edges.now i) (ends_at c.args.edges.now j)). stay_clear (clear_by_boxes 8 (ends_at c.args.edges.now i) (ends_at c.args.edges.now j) apart))
          (c.in_ok-candidates.ensures.all c.args.edges.now i j c.requires.tree.boxes (omega (arith, e, l)) after within)))
          (below_or_at h i m);
    }

pub returns-clause-settled : goal.returns-clause-settled
returns-clause-settled c = λ i j at order within. c.loop-i.invariant.settled i j (omega (arith, at)) (omega (arith, at, order, within, c.loop-i-test.false)) order within
