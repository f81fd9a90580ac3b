-- Lemmas over points and lists: where two segments meet lies in the box of both, and is an end of one at most.
use Rattle.std.proofs.Common.{◌≡◌, ◌⊎◌, inl, inr, ⊎_elim, ◌<◌, true, false, sym, ◌∙◌, ap, subst, refl, arith, [], ◌∷◌, zero, suc}
use Rattle.std.specs.Prelude.{ℤ, pos, negsuc, ◌+ℤ◌, ◌-ℤ◌, ◌*ℤ◌, ◌≤ℤ◌, ◌<ℤ◌, neg_ℤ}
use lib.IntN.{neg_ℤ-neg_ℤ}
use Rattle.std.proofs.lemmas.Bool.{both_ways, cases_Bool}
use Rattle.std.proofs.lemmas.Int.{ints}
use Rattle.mesh_plane.specs.Plane.{Point, Edge, turn}
use Rattle.mesh_plane.specs.Rounding.{rounded}
use Rattle.mesh_plane.proofs.Whole.{linear, mul_nonneg}
use Rattle.mesh_plane.proofs.Ring.{ring, var, lit, neg, ◌⊕◌, ◌⊖◌, ◌⊗◌}
use Rattle.mesh_plane.proofs.Rounding.{rounded_at_least, rounded_at_most}
use Rattle.mesh_lattice.specs.Split.{is_end, IsBetween, IsInBox, AreOpposite, IsCrossing, rounded_quotient, crossing_at, rounded_crossing, Meets, at_start_of_second, at_end_of_second, at_start_of_first, at_end_of_first, at_crossing}
use Rattle.mesh_lattice.proofs.Ends.{decides_end}
use Rattle.mesh_plane.proofs.PointExprs.{point_var, coordinates, turned}
use Rattle.mesh_plane.proofs.Crossings.{turn_flip}
use Rattle.mesh_lattice.specs.Clean.{IsOn}
use Rattle.mesh_lattice.specs.Split.{back}

-- ---- a coordinate between two others, and a point on an edge

pub between_start : (a b : ℤ) → IsBetween a a b
between_start a b = record { up = λ h. (omega (arith, linear), h); down = λ h. (h, omega (arith, linear)) }

pub between_end : (a b : ℤ) → IsBetween a b b
between_end a b = record { up = λ h. (h, omega (arith, linear)); down = λ h. (omega (arith, linear), h) }

pub between_back : (a z b : ℤ) → IsBetween b z a → IsBetween a z b
between_back a z b h = record { up = h.down; down = h.up }

pub on_back : (e : Edge) (z : Point) → IsOn e z → IsOn (back e) z
on_back e z h = record {
  on_line = turn_flip e.0 e.1 z ∙ omega (arith, linear, h.on_line);
  in_box = record { by_x = between_back e.1.0 z.0 e.0.0 h.in_box.by_x; by_y = between_back e.1.1 z.1 e.0.1 h.in_box.by_y };
}

quotient_between : (n d low high : ℤ) → pos 0 <ℤ d → (low *ℤ d) ≤ℤ n → n ≤ℤ (high *ℤ d) → (low ≤ℤ rounded_quotient n d) × (rounded_quotient n d ≤ℤ high)
quotient_between n (pos d) low high h l m =
    let p : 0 < d = omega (arith, ints, h) in
    (rounded_at_least low n d p l, rounded_at_most n high d p m)
quotient_between n (negsuc d) low high h l m = absurd (omega (arith, ints, h))

-- a quotient keeps when both numbers change their sign
pub quotient_flip : (n d : ℤ) → (pos 0 <ℤ d) ⊎ (d <ℤ pos 0) → rounded_quotient (neg_ℤ n) (neg_ℤ d) ≡ rounded_quotient n d
quotient_flip n (pos zero) (inl h) = absurd (omega (arith, ints, h))
quotient_flip n (pos zero) (inr h) = absurd (omega (arith, ints, h))
quotient_flip n (pos (suc d)) h = ap (λ (x : ℤ). rounded x (suc d)) (neg_ℤ-neg_ℤ n)
quotient_flip n (negsuc d) h = refl

rest_upper : (a b s d : ℤ) → (b *ℤ d) -ℤ ((a *ℤ d) +ℤ ((b -ℤ a) *ℤ s)) ≡ (b -ℤ a) *ℤ (d -ℤ s)
rest_upper a b s d =
    ring (a ∷ b ∷ s ∷ d ∷ []) ((var 1 ⊗ var 3) ⊖ ((var 0 ⊗ var 3) ⊕ ((var 1 ⊖ var 0) ⊗ var 2))) ((var 1 ⊖ var 0) ⊗ (var 3 ⊖ var 2)) refl

rest_lower : (a b s d : ℤ) → ((a *ℤ d) +ℤ ((b -ℤ a) *ℤ s)) -ℤ (b *ℤ d) ≡ (a -ℤ b) *ℤ (d -ℤ s)
rest_lower a b s d =
    ring (a ∷ b ∷ s ∷ d ∷ []) (((var 0 ⊗ var 3) ⊕ ((var 1 ⊖ var 0) ⊗ var 2)) ⊖ (var 1 ⊗ var 3)) ((var 0 ⊖ var 1) ⊗ (var 3 ⊖ var 2)) refl

step_lower : (a b s d : ℤ) → (a *ℤ d) -ℤ ((a *ℤ d) +ℤ ((b -ℤ a) *ℤ s)) ≡ (a -ℤ b) *ℤ s
step_lower a b s d =
    ring (a ∷ b ∷ s ∷ d ∷ []) ((var 0 ⊗ var 3) ⊖ ((var 0 ⊗ var 3) ⊕ ((var 1 ⊖ var 0) ⊗ var 2))) ((var 0 ⊖ var 1) ⊗ var 2) refl

share_between : (a b s d : ℤ) → pos 0 <ℤ d → pos 0 ≤ℤ s → s ≤ℤ d → IsBetween a (crossing_at a b s d) b
share_between a b s d h l m = record {
  up = λ (o : a ≤ℤ b).
      let first : pos 0 ≤ℤ ((b -ℤ a) *ℤ s) = mul_nonneg (b -ℤ a) s (omega (arith, linear)) l in
      let last : pos 0 ≤ℤ ((b -ℤ a) *ℤ (d -ℤ s)) = mul_nonneg (b -ℤ a) (d -ℤ s) (omega (arith, linear)) (omega (arith, linear)) in
      quotient_between ((a *ℤ d) +ℤ ((b -ℤ a) *ℤ s)) d a b h (omega (arith, linear)) (omega (arith, linear, rest_upper a b s d));
  down = λ (o : b ≤ℤ a).
      let first : pos 0 ≤ℤ ((a -ℤ b) *ℤ s) = mul_nonneg (a -ℤ b) s (omega (arith, linear)) l in
      let last : pos 0 ≤ℤ ((a -ℤ b) *ℤ (d -ℤ s)) = mul_nonneg (a -ℤ b) (d -ℤ s) (omega (arith, linear)) (omega (arith, linear)) in
      quotient_between ((a *ℤ d) +ℤ ((b -ℤ a) *ℤ s)) d b a h (omega (arith, linear, rest_lower a b s d)) (omega (arith, linear, step_lower a b s d));
}

turned_share : (a b s t : ℤ) → (a *ℤ (neg_ℤ s -ℤ neg_ℤ t)) +ℤ ((b -ℤ a) *ℤ neg_ℤ s) ≡ neg_ℤ ((a *ℤ (s -ℤ t)) +ℤ ((b -ℤ a) *ℤ s))
turned_share a b s t =
    ring (a ∷ b ∷ s ∷ t ∷ [])
    ((var 0 ⊗ (neg (var 2) ⊖ neg (var 3))) ⊕ ((var 1 ⊖ var 0) ⊗ neg (var 2)))
    (neg ((var 0 ⊗ (var 2 ⊖ var 3)) ⊕ ((var 1 ⊖ var 0) ⊗ var 2)))
    refl

pub crossing_between : (a b s t : ℤ) → AreOpposite s t → IsBetween a (crossing_at a b s (s -ℤ t)) b
crossing_between a b s t (inl h) =
    share_between a b s (s -ℤ t) (omega (arith, linear, h.0, h.1)) (omega (arith, linear, h.0)) (omega (arith, linear, h.1))
crossing_between a b s t (inr h) =
    let divisor : neg_ℤ s -ℤ neg_ℤ t ≡ neg_ℤ (s -ℤ t) = omega (arith, linear) in
    let same : crossing_at a b (neg_ℤ s) (neg_ℤ s -ℤ neg_ℤ t) ≡ crossing_at a b s (s -ℤ t) =
    (λ i. rounded_quotient (turned_share a b s t i) (divisor i)) ∙ quotient_flip ((a *ℤ (s -ℤ t)) +ℤ ((b -ℤ a) *ℤ s)) (s -ℤ t) (inr (omega (arith, linear, h.0, h.1))) in
    subst (λ (z : ℤ). IsBetween a z b) same
    (share_between a b (neg_ℤ s) (neg_ℤ s -ℤ neg_ℤ t) (omega (arith, linear, h.0, h.1)) (omega (arith, linear, h.0)) (omega (arith, linear, h.1)))

-- ---- the crossing of two edges

pub turn_start : (p r : Point) → turn p r p ≡ pos 0
turn_start p r = ring (coordinates (p ∷ r ∷ []) []) (turned (point_var 0) (point_var 1) (point_var 0)) (lit (pos 0)) refl

pub turn_end : (p r : Point) → turn p r r ≡ pos 0
turn_end p r = ring (coordinates (p ∷ r ∷ []) []) (turned (point_var 0) (point_var 1) (point_var 1)) (lit (pos 0)) refl

-- the turns of two edges' ends from each other differ by the same number
pub turns_differ : (a b p r : Point) → turn p r a -ℤ turn p r b ≡ neg_ℤ (turn a b p -ℤ turn a b r)
turns_differ a b p r =
    let e = turned (point_var 2) (point_var 3) in
    let f = turned (point_var 0) (point_var 1) in
    ring (coordinates (a ∷ b ∷ p ∷ r ∷ []) []) (e (point_var 0) ⊖ e (point_var 1)) (neg (f (point_var 2) ⊖ f (point_var 3))) refl

crossing_x : (a b p r : Point)
    → (a.0 *ℤ (turn p r a -ℤ turn p r b)) +ℤ ((b.0 -ℤ a.0) *ℤ turn p r a) ≡ neg_ℤ ((p.0 *ℤ (turn a b p -ℤ turn a b r)) +ℤ ((r.0 -ℤ p.0) *ℤ turn a b p))
crossing_x a b p r =
    let e = turned (point_var 2) (point_var 3) in
    let f = turned (point_var 0) (point_var 1) in
    ring (coordinates (a ∷ b ∷ p ∷ r ∷ []) [])
    ((var 0 ⊗ (e (point_var 0) ⊖ e (point_var 1))) ⊕ ((var 2 ⊖ var 0) ⊗ e (point_var 0)))
    (neg ((var 4 ⊗ (f (point_var 2) ⊖ f (point_var 3))) ⊕ ((var 6 ⊖ var 4) ⊗ f (point_var 2))))
    refl

crossing_y : (a b p r : Point)
    → (a.1 *ℤ (turn p r a -ℤ turn p r b)) +ℤ ((b.1 -ℤ a.1) *ℤ turn p r a) ≡ neg_ℤ ((p.1 *ℤ (turn a b p -ℤ turn a b r)) +ℤ ((r.1 -ℤ p.1) *ℤ turn a b p))
crossing_y a b p r =
    let e = turned (point_var 2) (point_var 3) in
    let f = turned (point_var 0) (point_var 1) in
    ring (coordinates (a ∷ b ∷ p ∷ r ∷ []) [])
    ((var 1 ⊗ (e (point_var 0) ⊖ e (point_var 1))) ⊕ ((var 3 ⊖ var 1) ⊗ e (point_var 0)))
    (neg ((var 5 ⊗ (f (point_var 2) ⊖ f (point_var 3))) ⊕ ((var 7 ⊖ var 5) ⊗ f (point_var 2))))
    refl

pub parted : (s t : ℤ) → AreOpposite s t → (pos 0 <ℤ (s -ℤ t)) ⊎ ((s -ℤ t) <ℤ pos 0)
parted s t (inl h) = inl (omega (arith, linear, h.0, h.1))
parted s t (inr h) = inr (omega (arith, linear, h.0, h.1))

-- the crossing is the same from both edges
pub one_crossing : (e f : Edge) → IsCrossing e f → rounded_crossing e f ≡ rounded_crossing f e
one_crossing e f h =
    let s = turn e.0 e.1 f.0 in
    let d = turn e.0 e.1 f.0 -ℤ turn e.0 e.1 f.1 in
    let same = turns_differ e.0 e.1 f.0 f.1 in
    let apart = parted (turn e.0 e.1 f.0) (turn e.0 e.1 f.1) h.second_parted in
    let x = (λ i. rounded_quotient (crossing_x e.0 e.1 f.0 f.1 i) (same i)) ∙ quotient_flip ((f.0.0 *ℤ d) +ℤ ((f.1.0 -ℤ f.0.0) *ℤ s)) d apart in
    let y = (λ i. rounded_quotient (crossing_y e.0 e.1 f.0 f.1 i) (same i)) ∙ quotient_flip ((f.0.1 *ℤ d) +ℤ ((f.1.1 -ℤ f.0.1) *ℤ s)) d apart in
    λ i. (x i, y i)

own_box : (e f : Edge) → IsCrossing e f → IsInBox e (rounded_crossing e f)
own_box e f h = record {
  by_x = crossing_between e.0.0 e.1.0 (turn f.0 f.1 e.0) (turn f.0 f.1 e.1) h.first_parted;
  by_y = crossing_between e.0.1 e.1.1 (turn f.0 f.1 e.0) (turn f.0 f.1 e.1) h.first_parted;
}

pub start_box : (e : Edge) → IsInBox e e.0
start_box e = record { by_x = between_start e.0.0 e.1.0; by_y = between_start e.0.1 e.1.1 }

pub end_box : (e : Edge) → IsInBox e e.1
end_box e = record { by_x = between_end e.0.0 e.1.0; by_y = between_end e.0.1 e.1.1 }

pub crossing_swapped : (e f : Edge) → IsCrossing e f → IsCrossing f e
crossing_swapped e f h = record { second_parted = h.first_parted; first_parted = h.second_parted }

pub meets_box : {e f : Edge} {c : Point} → Meets e f c → IsInBox e c × IsInBox f c
meets_box {e} {f} (at_start_of_second h) = (h.in_box, start_box f)
meets_box {e} {f} (at_end_of_second h) = (h.in_box, end_box f)
meets_box {e} {f} (at_start_of_first h) = (start_box e, h.in_box)
meets_box {e} {f} (at_end_of_first h) = (end_box e, h.in_box)
meets_box {e} {f} (at_crossing h) = (own_box e f h, subst (λ (c : Point). IsInBox f c) (sym (one_crossing e f h)) (own_box f e (crossing_swapped e f h)))

not_opposite : (s t : ℤ) → (s ≡ pos 0) ⊎ (t ≡ pos 0) → AreOpposite s t → ⊥
not_opposite s t (inl z) (inl h) = omega (arith, linear, h.0)
not_opposite s t (inl z) (inr h) = omega (arith, linear, h.0)
not_opposite s t (inr z) (inl h) = omega (arith, linear, h.1)
not_opposite s t (inr z) (inr h) = omega (arith, linear, h.1)

no_common_end : (e f : Edge) (c : Point) → IsCrossing e f → (c ≡ e.0) ⊎ (c ≡ e.1) → (c ≡ f.0) ⊎ (c ≡ f.1) → ⊥
no_common_end e f c h (inl a) (inl b) = not_opposite _ _ (inl (ap (turn e.0 e.1) (sym b ∙ a) ∙ turn_start e.0 e.1)) h.second_parted
no_common_end e f c h (inr a) (inl b) = not_opposite _ _ (inl (ap (turn e.0 e.1) (sym b ∙ a) ∙ turn_end e.0 e.1)) h.second_parted
no_common_end e f c h (inl a) (inr b) = not_opposite _ _ (inr (ap (turn e.0 e.1) (sym b ∙ a) ∙ turn_start e.0 e.1)) h.second_parted
no_common_end e f c h (inr a) (inr b) = not_opposite _ _ (inr (ap (turn e.0 e.1) (sym b ∙ a) ∙ turn_end e.0 e.1)) h.second_parted

-- where two segments meet is an end of one of them at most
pub meets_once : {e f : Edge} {c : Point} → Meets e f c → is_end c f ≡ true → is_end c e ≡ false
meets_once {e} {f} (at_start_of_second h) y = h.no_end
meets_once {e} {f} (at_end_of_second h) y = h.no_end
meets_once {e} {f} (at_start_of_first h) y = absurd (both_ways _ h.no_end y)
meets_once {e} {f} (at_end_of_first h) y = absurd (both_ways _ h.no_end y)
meets_once {e} {f} (at_crossing h) y =
    ⊎_elim
    (λ (t : is_end (rounded_crossing e f) e ≡ true). absurd (no_common_end e f (rounded_crossing e f) h ((decides_end (rounded_crossing e f) e).0 t) ((decides_end (rounded_crossing e f) f).0 y)))
    (λ (n : is_end (rounded_crossing e f) e ≡ false). n)
    (cases_Bool (is_end (rounded_crossing e f) e))
