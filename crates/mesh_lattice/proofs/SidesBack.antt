-- Lemmas over points and lists: counts of edges, and the sides of an edge and of the edge back.
use Rattle.std.proofs.Common.{◌≡◌, ℕ, ◌+◌, Bool, true, false, cond, List, ◌∷◌, ap, ⊎_elim, arith, ◌&&◌, ◌||◌, sym, not, refl, ◌∙◌}
use Rattle.std.specs.Prelude.{pos, ◌+ℤ◌, ℤ, ◌<ℤ◌, int_lt, ◌-ℤ◌, neg_ℤ}
use Rattle.std.proofs.lemmas.List.Sums.{sum_by-cons}
use Rattle.mesh_plane.specs.Plane.{Edge, Point}
use Rattle.mesh_lattice.specs.Split.{same_edge, back}
use Rattle.mesh_lattice.specs.Counted.{bit, net}
use Rattle.mesh_lattice.specs.Boundary.{count, rises, winding_beside, left_winding, right_winding}
use Rattle.std.specs.Ordering.{int_eq}
use Rattle.std.proofs.lemmas.Int.{ints}
use Rattle.std.proofs.lemmas.Bool.{cases_Bool, or_from, false≢true}
use Rattle.std.proofs.lemmas.Bool.Decides.{Decides-int_eq}
use Rattle.mesh_plane.specs.Winding.{winding, crossing}
use Rattle.mesh_lattice.proofs.Keys.{Leans, net_back}
use Rattle.mesh_plane.proofs.Whole.{linear}
use Rattle.mesh_plane.proofs.Crossings.{crossing_odd}
use Rattle.mesh_plane.proofs.Grids.{scale}
use Rattle.mesh_plane.proofs.Comparing.{less_test, not_less_test}

pub count_more : (s e : Edge) (es : List Edge) → pos (count s (e ∷ es)) ≡ bit (same_edge s e) +ℤ pos (count s es)
count_more s e es = by (same_edge s e) (count s es) (count s (e ∷ es)) (sum_by-cons (λ (x : Edge). cond (same_edge s x) 1 0) e es)
  where
    by : (b : Bool) (n m : ℕ) → m ≡ cond b 1 0 + n → pos m ≡ bit b +ℤ pos n
    by true n m h = ap pos h
    by false n m h = ap pos h

apart_test : (a b : ℤ) → a <ℤ b → int_eq b a ≡ false
apart_test a b h =
    ⊎_elim (λ (t : int_eq b a ≡ true). absurd (no_less a b h ((Decides-int_eq b a).0 t))) (λ (f : int_eq b a ≡ false). f) (cases_Bool (int_eq b a))
  where
    no_less : (a b : ℤ) → a <ℤ b → b ≡ a → ⊥
    no_less a b h e = omega (arith, ints)

pub rises_up : (s : Edge) → s.0.1 <ℤ s.1.1 → (rises s ≡ true) × (rises (back s) ≡ false)
unfolding rises
rises_up s up = (
  (λ i. less_test s.0.1 s.1.1 up i || (int_eq s.0.1 s.1.1 && int_lt s.1.0 s.0.0)),
  (λ i. not_less_test s.1.1 s.0.1 (omega (arith, ints)) i || (apart_test s.0.1 s.1.1 up i && int_lt s.0.0 s.1.0)),
)

pub rises_flat : (s : Edge) → s.0.1 ≡ s.1.1 → s.0.0 <ℤ s.1.0 → (rises s ≡ false) × (rises (back s) ≡ true)
unfolding rises
rises_flat s flat east = (
  or_from (int_lt s.0.1 s.1.1) (int_eq s.0.1 s.1.1 && int_lt s.1.0 s.0.0) (not_less_test s.0.1 s.1.1 (omega (arith, ints)))
      ((λ i. (Decides-int_eq s.0.1 s.1.1).1 flat i && not_less_test s.1.0 s.0.0 (omega (arith, ints)) i)),
  (λ i. not_less_test s.1.1 s.0.1 (omega (arith, ints)) i || ((Decides-int_eq s.1.1 s.0.1).1 (sym flat) i && less_test s.0.0 s.1.0 east i)),
)

beside_back : (es : List Edge) (s : Edge) → winding_beside es (back s) ≡ winding_beside es s
beside_back es s = λ i. winding 2 (commuted s.1.0 s.0.0 i, commuted s.1.1 s.0.1 i) es
  where
    commuted : (a b : ℤ) → a +ℤ b ≡ b +ℤ a
    commuted a b = omega (arith, ints)

abbrev left_by : Bool → ℤ → ℤ → ℤ
left_by b w n = cond b (w +ℤ n) w

abbrev right_by : Bool → ℤ → ℤ → ℤ
right_by b w n = cond b w (w -ℤ n)

-- the left of the edge back is the right of the edge, and the right the left
pub sides_back : (es : List Edge) (s : Edge) → Leans s →
    (left_winding es (back s) ≡ right_winding es s) × (right_winding es (back s) ≡ left_winding es s)
sides_back es s lean =
    ⊎_elim
    (λ (up : s.0.1 <ℤ s.1.1). let r = rises_up s up in by true false (rises s) (rises (back s)) r.0 r.1 refl)
    (λ (flat : (s.0.1 ≡ s.1.1) × (s.0.0 <ℤ s.1.0)). let r = rises_flat s flat.0 flat.1 in by false true (rises s) (rises (back s)) r.0 r.1 refl)
    lean
  where
    bare : (b c : Bool) (w v n k : ℤ) → c ≡ not b → v ≡ w → k ≡ neg_ℤ n → (left_by c v k ≡ right_by b w n) × (right_by c v k ≡ left_by b w n)
    bare true true w v n k e f g = absurd (false≢true (sym e))
    bare true false w v n k e f g = let x : v ≡ w = f in let y : v -ℤ k ≡ w +ℤ n = omega (arith, ints) in (x, y)
    bare false true w v n k e f g = let x : v +ℤ k ≡ w -ℤ n = omega (arith, ints) in let y : v ≡ w = f in (x, y)
    bare false false w v n k e f g = absurd (false≢true e)

    by : (b c x y : Bool) → x ≡ b → y ≡ c → c ≡ not b →
        (left_by y (winding_beside es (back s)) (net (back s) es) ≡ right_by x (winding_beside es s) (net s es))
        × (right_by y (winding_beside es (back s)) (net (back s) es) ≡ left_by x (winding_beside es s) (net s es))
    by b c x y e f g =
        bare x y (winding_beside es s) (winding_beside es (back s)) (net s es) (net (back s) es) (f ∙ (g ∙ sym (ap not e))) (beside_back es s) (net_back s es)

pub crossing_back : (m : ℤ) (q : Point) (e : Edge) → crossing q (scale m (back e).0) (scale m (back e).1) ≡ neg_ℤ (crossing q (scale m e.0) (scale m e.1))
crossing_back m q e = omega (arith, linear, crossing_odd q (scale m e.0) (scale m e.1))
