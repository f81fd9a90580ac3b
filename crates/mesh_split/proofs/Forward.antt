-- Lemmas over points: edges with the lesser end first.
use Rattle.std.proofs.Common.{◌≡◌, ⊎_elim, Bool, true, false, cond, sym, ◌∙◌, ap, refl, arith, List, Option, Some}
use Rattle.std.specs.Prelude.{ℤ, unwrap_or}
use Rattle.std.specs.Map.{lookup}
use Rattle.std.proofs.lemmas.Bool.{both_ways, cases_Bool}
use Rattle.std.proofs.lemmas.Int.{ints}
use Rattle.mesh_plane.specs.Order.{point_lt}
use Rattle.mesh_plane.specs.Plane.{Edge}
use Rattle.mesh_lattice.specs.Split.{back, same_ends}
use Rattle.mesh_lattice.proofs.Ends.{decides_ends, ends_self, ends_sym, ends_turned, ends_along}
use Rattle.mesh_store.proofs.Entries.{edge_equal, equal_self, asymmetric}
use Rattle.mesh_store.specs.Witnesses.{edge_eq, forward, witness_in}

one_x : (a b x y : ℤ) → point_lt (a, b) (x, y) ≡ false → point_lt (x, y) (a, b) ≡ false → a ≡ x
one_x a b x y h k = grind (arith, ints)

one_y : (a b x y : ℤ) → point_lt (a, b) (x, y) ≡ false → point_lt (x, y) (a, b) ≡ false → b ≡ y
one_y a b x y h k = grind (arith, ints)

-- an edge and the edge back are one forward
forward_back : (e : Edge) → forward (back e) ≡ forward e
forward_back e =
    ⊎_elim
    (λ (t : point_lt e.0 e.1 ≡ true).
    ⊎_elim
    (λ (u : point_lt e.1 e.0 ≡ true). absurd (asymmetric e.0.0 e.0.1 e.1.0 e.1.1 t u))
    (λ (n : point_lt e.1 e.0 ≡ false). both e n ∙ sym (ap (λ (b : Bool). cond b e (back e)) t))
    (cases_Bool (point_lt e.1 e.0)))
    (λ (f : point_lt e.0 e.1 ≡ false).
    ⊎_elim
    (λ (u : point_lt e.1 e.0 ≡ true). ap (λ (b : Bool). cond b (back e) e) u ∙ sym (ap (λ (b : Bool). cond b e (back e)) f))
    (λ (n : point_lt e.1 e.0 ≡ false).
    let x : e.0.0 ≡ e.1.0 = one_x e.0.0 e.0.1 e.1.0 e.1.1 f n in
    let y : e.0.1 ≡ e.1.1 = one_y e.0.0 e.0.1 e.1.0 e.1.1 f n in
    let turned : e ≡ back e = (λ i. ((x i, y i), (sym x i, sym y i))) in
    both e n ∙ turned ∙ sym (ap (λ (b : Bool). cond b e (back e)) f))
    (cases_Bool (point_lt e.1 e.0)))
    (cases_Bool (point_lt e.0 e.1))
  where
    both : (e : Edge) → point_lt e.1 e.0 ≡ false → forward (back e) ≡ e
    both e n = ap (λ (b : Bool). cond b (back e) e) n

-- forward, an edge is itself or the edge back
pub itself : (e : Edge) → same_ends (forward e) e ≡ true
itself e = by (point_lt e.0 e.1)
  where
    by : (b : Bool) → same_ends (cond b e (back e)) e ≡ true
    by true = ends_self e
    by false = ends_sym (back e) e ∙ ends_turned e e ∙ ends_self e

either_way : (e q : Edge) → forward e ≡ forward q → same_ends q e ≡ true
either_way e q h =
    sym (ends_along q (forward q) e (ap (λ (x : Edge). same_ends x e) (sym h) ∙ itself e)) ∙ ends_sym q (forward q) ∙ itself q

-- forward, edges with the same ends are one, and no others
pub forward_equal : (e q : Edge) → edge_eq (forward e) (forward q) ≡ same_ends q e
forward_equal e q =
    ⊎_elim
    (λ (t : same_ends q e ≡ true).
    let one : forward e ≡ forward q =
    ⊎_elim (λ (p : q ≡ e). ap forward (sym p)) (λ (p : q ≡ back e). sym (forward_back e) ∙ ap forward (sym p)) ((decides_ends q e).0 t) in
    ap (edge_eq (forward e)) (sym one) ∙ equal_self (forward e) ∙ sym t)
    (λ (n : same_ends q e ≡ false).
    ⊎_elim
    (λ (t : edge_eq (forward e) (forward q) ≡ true). absurd (both_ways (same_ends q e) n (either_way e q (edge_equal (forward e) (forward q) t))))
    (λ (o : edge_eq (forward e) (forward q) ≡ false). o ∙ sym n)
    (cases_Bool (edge_eq (forward e) (forward q))))
    (cases_Bool (same_ends q e))

-- a witness that was noted
pub noted : (e witness : Edge) (old new : List (Edge × Edge)) (q : Edge)
    → lookup (edge_eq (forward q)) new ≡ cond (edge_eq (forward e) (forward q)) (Some witness) (lookup (edge_eq (forward q)) old)
    → witness_in new q ≡ cond (same_ends q e) witness (witness_in old q)
noted e witness old new q h =
    ap (λ (o : Option Edge). unwrap_or o q) (h ∙ ap (λ (b : Bool). cond b (Some witness) (lookup (edge_eq (forward q)) old)) (forward_equal e q))
    ∙ by (same_ends q e)
  where
    by : (b : Bool) → unwrap_or (cond b (Some witness) (lookup (edge_eq (forward q)) old)) q ≡ cond b witness (witness_in old q)
    by true = refl
    by false = refl
