-- Lemmas over points and lists: edges with the same ends.
use Rattle.std.proofs.Common.{◌≡◌, ◌⊎◌, inl, inr, ⊎_elim, Bool, true, false, sym, ◌∙◌, ap, refl, arith}
use Rattle.std.specs.Prelude.{pos, ◌-ℤ◌, neg_ℤ, ℤ, IsTrue}
use Rattle.std.specs.Bool.{Decides}
use Rattle.std.proofs.lemmas.Bool.{both_ways, cases_Bool, or_parts}
use Rattle.std.proofs.lemmas.Bool.Decides.{Decides-and, Decides-or, Decides-like, same_from_decides}
use Rattle.std.proofs.lemmas.Int.{ints}
use Rattle.mesh_plane.specs.Plane.{Point, Edge}
use Rattle.mesh_plane.specs.Winding.{same_point}
use Rattle.mesh_lattice.specs.Split.{back, same_edge, same_ends, is_end}
use Rattle.mesh_lattice.specs.Counted.{bit, along}
use Rattle.mesh_plane.specs.Order.{point_lt}
use Rattle.mesh_plane.proofs.Comparing.{decides_point}

pub decides_edge : (e f : Edge) → Decides (same_edge e f) (e ≡ f)
unfolding same_edge
decides_edge e f =
    Decides-like (same_edge e f) (λ (h : (e.0 ≡ f.0) × (e.1 ≡ f.1)). λ i. (h.0 i, h.1 i))
    (λ (h : e ≡ f). (ap (λ (v : Edge). v.0) h, ap (λ (v : Edge). v.1) h))
    (Decides-and _ _ (decides_point e.0 f.0) (decides_point e.1 f.1))

pub decides_ends : (e f : Edge) → Decides (same_ends e f) ((e ≡ f) ⊎ (e ≡ back f))
unfolding same_ends
decides_ends e f = Decides-or _ _ (decides_edge e f) (decides_edge e (back f))

pub decides_end : (c : Point) (e : Edge) → Decides (is_end c e) ((c ≡ e.0) ⊎ (c ≡ e.1))
unfolding is_end
decides_end c e = Decides-or _ _ (decides_point c e.0) (decides_point c e.1)

pub end_back : (c : Point) (e : Edge) → is_end c (back e) ≡ is_end c e
end_back c e =
    same_from_decides _ _ (decides_end c (back e))
    (Decides-like _ (⊎_elim (λ (h : c ≡ e.0). inr h) (λ (h : c ≡ e.1). inl h)) (⊎_elim (λ (h : c ≡ e.1). inr h) (λ (h : c ≡ e.0). inl h)) (decides_end c e))

pub ends_self : (e : Edge) → same_ends e e ≡ true
ends_self e = (decides_ends e e).1 (inl refl)

pub ends_turned : (q e : Edge) → same_ends q (back e) ≡ same_ends q e
ends_turned q e =
    same_from_decides _ _ (decides_ends q (back e))
    (Decides-like _ (⊎_elim (λ (h : q ≡ e). inr h) (λ (h : q ≡ back e). inl h)) (⊎_elim (λ (h : q ≡ back e). inr h) (λ (h : q ≡ e). inl h)) (decides_ends q e))

pub ends_sym : (q e : Edge) → same_ends q e ≡ same_ends e q
ends_sym q e =
    same_from_decides _ _ (decides_ends q e)
    (Decides-like _ (⊎_elim (λ (h : e ≡ q). inl (sym h)) (λ (h : e ≡ back q). inr (sym (ap back h)))) (⊎_elim (λ (h : q ≡ e). inl (sym h)) (λ (h : q ≡ back e). inr (sym (ap back h)))) (decides_ends e q))

pub ends_along : (q s e : Edge) → same_ends s e ≡ true → same_ends q s ≡ same_ends q e
ends_along q s e h =
    ⊎_elim (λ (p : s ≡ e). ap (same_ends q) p) (λ (p : s ≡ back e). ap (same_ends q) p ∙ ends_turned q e) ((decides_ends s e).0 h)

-- an edge that ends at a point, and one that does not
pub not_ends : (c : Point) (q e : Edge) → is_end c q ≡ false → is_end c e ≡ true → same_ends q e ≡ false
not_ends c q e n y =
    let by : Bool → Type 0 = λ b. (same_ends q e ≡ b) → same_ends q e ≡ false in
    ⊎_elim
    (λ (t : same_ends q e ≡ true).
    let at : (is_end c q ≡ true) =
    (decides_end c q).1
    (⊎_elim
    (λ (p : q ≡ e). ⊎_elim (λ (z : c ≡ e.0). inl (z ∙ sym (ap (λ (v : Edge). v.0) p))) (λ (z : c ≡ e.1). inr (z ∙ sym (ap (λ (v : Edge). v.1) p))) ((decides_end c e).0 y))
    (λ (p : q ≡ back e). ⊎_elim (λ (z : c ≡ e.0). inr (z ∙ sym (ap (λ (v : Edge). v.1) p))) (λ (z : c ≡ e.1). inl (z ∙ sym (ap (λ (v : Edge). v.0) p))) ((decides_end c e).0 y))
    ((decides_ends q e).0 t)) in
    absurd (both_ways _ n at))
    (λ (f : same_ends q e ≡ false). f)
    (cases_Bool (same_ends q e))

pub along_turned : (q e : Edge) → along q (back e) ≡ neg_ℤ (along q e)
unfolding along
along_turned q e = omega (arith, ints)

pub not_along : (s e : Edge) → same_ends s e ≡ false → along s e ≡ pos 0
unfolding along same_ends
not_along s e h =
    let p = or_parts (same_edge s e) (same_edge s (back e)) h in
    λ i. bit (p.0 i) -ℤ bit (p.1 i)

pub along_self : (s : Edge) → same_point s.0 s.1 ≡ false → along s s ≡ pos 1
unfolding along
along_self s h =
    let other : same_edge s (back s) ≡ false =
    ⊎_elim
    (λ (t : same_edge s (back s) ≡ true). absurd (both_ways _ h ((decides_point s.0 s.1).1 (ap (λ (v : Edge). v.0) ((decides_edge s (back s)).0 t)))))
    (λ (f : same_edge s (back s) ≡ false). f)
    (cases_Bool (same_edge s (back s))) in
    let own : same_edge s s ≡ true = (decides_edge s s).1 refl in
    λ i. bit (own i) -ℤ bit (other i)

pub forward_proper : (e : Edge) → IsTrue (point_lt e.0 e.1) → same_point e.0 e.1 ≡ false
forward_proper e h =
    ⊎_elim
    (λ (t : same_point e.0 e.1 ≡ true). absurd (not_before e.0 e.1 ((decides_point e.0 e.1).0 t) h))
    (λ (f : same_point e.0 e.1 ≡ false). f)
    (cases_Bool (same_point e.0 e.1))
  where
    irreflexive : (x y : ℤ) → point_lt (x, y) (x, y) ≡ true → ⊥
    irreflexive x y h = grind (arith, ints)

    not_before : (p q : Point) → p ≡ q → point_lt p q ≡ true → ⊥
    not_before p q e h = irreflexive q.0 q.1 (ap (λ (v : Point). point_lt v q) (sym e) ∙ h)
