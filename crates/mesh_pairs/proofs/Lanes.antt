-- Lemmas over eight rectangles: those of a list, put in one by one.
use Rattle.std.proofs.Common.{◌≡◌, ℕ, ◌+◌, ◌-◌, ◌<◌, ◌≤◌, ◌⊎◌, inl, inr, List, sym, ◌∙◌, ap, subst, arith}
use Rattle.mesh_pairs.specs.declared.boxes.Bounds.{Bounds}
use Rattle.mesh_pairs.specs.declared.boxes.EightBounds.{EightBounds}
use Rattle.mesh_pairs.specs.declared.boxes.TheConstants.{NONE}
use Rattle.mesh_pairs.specs.Boxes.{lane, Covers}
use Rattle.mesh_pairs.specs.Private.Trees.{AreLanes, box_at}
use Rattle.mesh_pairs.proofs.Trees.{covers_all}

same_or_not : (i j : ℕ) → (i ≡ j) ⊎ (i ≡ j → ⊥)
same_or_not i j = grind arith

below_or_at : (k n : ℕ) → k < n + 1 → (k < n) ⊎ (k ≡ n)
below_or_at k n h = grind arith

pub lanes_more : (e e' : EightBounds) (boxes : List Bounds) (from k : ℕ) → from ≤ k → lane e' (k - from) ≡ box_at boxes k
    → ((j : ℕ) → (j ≡ k - from → ⊥) → lane e' j ≡ lane e j) → AreLanes e boxes from k → AreLanes e' boxes from (k + 1)
lanes_more e e' boxes from k rising put others lanes j place = by (same_or_not j (k - from))
  where
    old : (j ≡ k - from → ⊥) → ((from + j < k) × (lane e j ≡ box_at boxes (from + j))) ⊎ ((k ≤ from + j) × (lane e j ≡ NONE))
        → ((from + j < k + 1) × (lane e' j ≡ box_at boxes (from + j))) ⊎ ((k + 1 ≤ from + j) × (lane e' j ≡ NONE))
    old n (inl h) = inl (omega (arith, h.0), others j n ∙ h.1)
    old n (inr h) = inr (grind (arith, h.0), others j n ∙ h.1)

    by : (j ≡ k - from) ⊎ (j ≡ k - from → ⊥) → ((from + j < k + 1) × (lane e' j ≡ box_at boxes (from + j))) ⊎ ((k + 1 ≤ from + j) × (lane e' j ≡ NONE))
    by (inl h) =
        let at : from + j ≡ k = omega arith in
        inl (omega arith, ap (lane e') h ∙ (put ∙ ap (box_at boxes) (sym at)))
    by (inr n) = old n (lanes j place)

pub covers_more : (b b' : Bounds) (boxes : List Bounds) (from k : ℕ) → Covers b' b → Covers b' (box_at boxes k) → ((j : ℕ) → from ≤ j → j < k → Covers b (box_at boxes j))
    → (j : ℕ) → from ≤ j → j < k + 1 → Covers b' (box_at boxes j)
covers_more b b' boxes from k old new all j h l = by (below_or_at j k l)
  where
    by : (j < k) ⊎ (j ≡ k) → Covers b' (box_at boxes j)
    by (inl m) = covers_all b' b (box_at boxes j) old (all j h m)
    by (inr e) = subst (λ (i : ℕ). Covers b' (box_at boxes i)) (sym e) new
