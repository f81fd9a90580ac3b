-- Lemmas over points and lists: segments that are clear of each other.
use Rattle.std.proofs.Common.{◌≡◌, ◌⊎◌, inl, inr, sym, ◌∙◌, ap, subst, refl, arith, [], ◌∷◌}
use Rattle.std.specs.Prelude.{ℤ, pos, neg_ℤ, ◌-ℤ◌, ◌*ℤ◌, ◌≤ℤ◌, ◌<ℤ◌}
use Rattle.std.proofs.lemmas.Bool.{both_ways}
use Rattle.std.proofs.lemmas.Int.{by_lt_z}
use Rattle.mesh_plane.proofs.Crossings.{turn_flip}
use Rattle.mesh_plane.proofs.PointExprs.{point_var, coordinates, turned}
use Rattle.mesh_plane.proofs.Ring.{ring, var, ◌⊖◌, ◌⊗◌}
use Rattle.mesh_plane.proofs.Whole.{linear, multiplied, mul_neg, mul_nonneg, mul_pos, mul_zero}
use Rattle.mesh_lattice.proofs.Ends.{decides_end}
use Rattle.mesh_plane.specs.Plane.{Point, Edge, turn}
use Rattle.mesh_lattice.specs.Split.{is_end, IsBetween, AreOpposite, IsInside, IsCrossing, Meets, at_start_of_second, at_end_of_second, at_start_of_first, at_end_of_first, at_crossing}
use Rattle.mesh_lattice.specs.Split.{AreClear}

pub clear_of_tests : (e f : Edge) → (IsInside e f.0 → ⊥) → (IsInside e f.1 → ⊥) → (IsInside f e.0 → ⊥) → (IsInside f e.1 → ⊥) → (IsCrossing e f → ⊥) → AreClear e f
clear_of_tests e f a b c d x p m = by m a b c d x
  where
    by : {e f : Edge} {p : Point} → Meets e f p → (IsInside e f.0 → ⊥) → (IsInside e f.1 → ⊥) → (IsInside f e.0 → ⊥) → (IsInside f e.1 → ⊥) → (IsCrossing e f → ⊥) → ⊥
    by (at_start_of_second h) a b c d x = a h
    by (at_end_of_second h) a b c d x = b h
    by (at_start_of_first h) a b c d x = c h
    by (at_end_of_first h) a b c d x = d h
    by (at_crossing h) a b c d x = x h

-- ---- an edge with both ends on one side of another's line

-- both above 0 or both below
abbrev pub AreAlike : ℤ → ℤ → Type 0
AreAlike s t = ((pos 0 <ℤ s) × (pos 0 <ℤ t)) ⊎ ((s <ℤ pos 0) × (t <ℤ pos 0))

less_back : (p a t : ℤ) → (p -ℤ a) *ℤ t ≡ neg_ℤ ((a -ℤ p) *ℤ t)
less_back p a t = simp multiplied (omega (arith, linear))

-- a number between two others is the first where its ways to them are so
no_way_up : (a p r s t : ℤ) → pos 0 <ℤ s → pos 0 <ℤ t → (r -ℤ a) *ℤ s ≡ (p -ℤ a) *ℤ t → IsBetween p a r → p ≡ a
no_way_up a p r s t hs ht e between = by_lt_z r p falling rising
  where
    rising : p ≤ℤ r → p ≡ a
    rising o =
        let w = between.up o in
        let last : pos 0 ≤ℤ ((r -ℤ a) *ℤ s) = mul_nonneg (r -ℤ a) s (omega (arith, linear, w.1)) (omega (arith, linear)) in
        by_lt_z p a
        (λ (k : p <ℤ a). absurd (omega (arith, linear, e, last, less_back p a t, mul_pos (a -ℤ p) t (omega (arith, linear)) ht)))
        (λ (k : a ≤ℤ p). omega (arith, linear, w.0))

    falling : r <ℤ p → p ≡ a
    falling o =
        let w = between.down (omega (arith, linear)) in
        let last : pos 0 ≤ℤ ((a -ℤ r) *ℤ s) = mul_nonneg (a -ℤ r) s (omega (arith, linear, w.0)) (omega (arith, linear)) in
        by_lt_z a p
        (λ (k : a <ℤ p). absurd (omega (arith, linear, e, last, less_back r a s, mul_pos (p -ℤ a) t (omega (arith, linear)) ht)))
        (λ (k : p ≤ℤ a). omega (arith, linear, w.1))

no_way : (a p r s t : ℤ) → AreAlike s t → (r -ℤ a) *ℤ s ≡ (p -ℤ a) *ℤ t → IsBetween p a r → p ≡ a
no_way a p r s t (inl h) e between = no_way_up a p r s t h.0 h.1 e between
no_way a p r s t (inr h) e between =
    no_way_up a p r (neg_ℤ s) (neg_ℤ t) (omega (arith, linear, h.0)) (omega (arith, linear, h.1)) (mul_neg (r -ℤ a) s ∙ (ap neg_ℤ e ∙ sym (mul_neg (p -ℤ a) t))) between

ways_x : (a b p r : Point) → (r.0 -ℤ a.0) *ℤ turn a b p ≡ ((p.0 -ℤ a.0) *ℤ turn a b r) -ℤ ((b.0 -ℤ a.0) *ℤ turn p r a)
ways_x a b p r =
    let f = turned (point_var 0) (point_var 1) in
    ring (coordinates (a ∷ b ∷ p ∷ r ∷ []) [])
    ((var 6 ⊖ var 0) ⊗ f (point_var 2))
    (((var 4 ⊖ var 0) ⊗ f (point_var 3)) ⊖ ((var 2 ⊖ var 0) ⊗ turned (point_var 2) (point_var 3) (point_var 0)))
    refl

ways_y : (a b p r : Point) → (r.1 -ℤ a.1) *ℤ turn a b p ≡ ((p.1 -ℤ a.1) *ℤ turn a b r) -ℤ ((b.1 -ℤ a.1) *ℤ turn p r a)
ways_y a b p r =
    let f = turned (point_var 0) (point_var 1) in
    ring (coordinates (a ∷ b ∷ p ∷ r ∷ []) [])
    ((var 7 ⊖ var 1) ⊗ f (point_var 2))
    (((var 5 ⊖ var 1) ⊗ f (point_var 3)) ⊖ ((var 3 ⊖ var 1) ⊗ turned (point_var 2) (point_var 3) (point_var 0)))
    refl

-- an edge with both ends on one side of a line has no inner point on it
no_inner : (a b p r : Point) → AreAlike (turn a b p) (turn a b r) → IsInside (p, r) a → ⊥
no_inner a b p r alike h =
    let x = no_way a.0 p.0 r.0 (turn a b p) (turn a b r) alike (ways_x a b p r ∙ none (b.0 -ℤ a.0) ((p.0 -ℤ a.0) *ℤ turn a b r)) h.in_box.by_x in
    let y = no_way a.1 p.1 r.1 (turn a b p) (turn a b r) alike (ways_y a b p r ∙ none (b.1 -ℤ a.1) ((p.1 -ℤ a.1) *ℤ turn a b r)) h.in_box.by_y in
    both_ways (is_end a (p, r)) h.no_end ((decides_end a (p, r)).1 (inl (λ i. (sym x i, sym y i))))
  where
    none : (l m : ℤ) → m -ℤ (l *ℤ turn p r a) ≡ m
    none l m = ap (λ (t : ℤ). m -ℤ (l *ℤ t)) h.on_line ∙ omega (arith, linear, mul_zero l)

alike_back : (s t : ℤ) → AreAlike s t → AreAlike (neg_ℤ s) (neg_ℤ t)
alike_back s t (inl h) = inr (omega (arith, linear, h.0), omega (arith, linear, h.1))
alike_back s t (inr h) = inl (omega (arith, linear, h.0), omega (arith, linear, h.1))

not_alike : (s t : ℤ) → AreAlike s t → (s ≡ pos 0) ⊎ ((t ≡ pos 0) ⊎ AreOpposite s t) → ⊥
not_alike s t (inl h) (inl z) = omega (arith, linear, h.0)
not_alike s t (inr h) (inl z) = omega (arith, linear, h.0)
not_alike s t (inl h) (inr (inl z)) = omega (arith, linear, h.1)
not_alike s t (inr h) (inr (inl z)) = omega (arith, linear, h.1)
not_alike s t (inl h) (inr (inr (inl o))) = omega (arith, linear, h.1, o.1)
not_alike s t (inl h) (inr (inr (inr o))) = omega (arith, linear, h.0, o.0)
not_alike s t (inr h) (inr (inr (inl o))) = omega (arith, linear, h.0, o.0)
not_alike s t (inr h) (inr (inr (inr o))) = omega (arith, linear, h.1, o.1)

-- edges are clear where both ends of one lie on one side of the other
pub clear_of_sides : (e f : Edge) → AreAlike (turn e.0 e.1 f.0) (turn e.0 e.1 f.1) → AreClear e f
clear_of_sides e f alike =
    clear_of_tests e f
    (λ h. not_alike _ _ alike (inl h.on_line))
    (λ h. not_alike _ _ alike (inr (inl h.on_line)))
    (λ h. no_inner e.0 e.1 f.0 f.1 alike h)
    (λ h. no_inner e.1 e.0 f.0 f.1 (subst (λ (z : ℤ). AreAlike z (turn e.1 e.0 f.1)) (sym (turn_flip e.0 e.1 f.0)) (subst (λ (z : ℤ). AreAlike (neg_ℤ (turn e.0 e.1 f.0)) z) (sym (turn_flip e.0 e.1 f.1)) (alike_back _ _ alike))) h)
    (λ h. not_alike _ _ alike (inr (inr h.second_parted)))
