-- Lemmas over whole numbers: rounded quotients by their remainders.
use Rattle.std.proofs.Common.{◌≡◌, ℕ, ◌+◌, ◌*◌, ◌<◌, [], ◌∷◌, suc, refl, sym, ◌∙◌, ap, subst, arith}
use Rattle.std.specs.Prelude.{ℤ, pos, negsuc, ◌+ℤ◌, ◌-ℤ◌, ◌*ℤ◌, ◌<ℤ◌, ◌≤ℤ◌, neg_ℤ, unsigned_abs}
use Rattle.std.proofs.Math.IntN.{pos-*ℤ-pos}
use Rattle.std.proofs.Math.Nat.{mul_comm}
use Rattle.std.proofs.lemmas.Int.{ints}
use lib.IntN.{neg_ℤ-neg_ℤ}
use Rattle.mesh_plane.specs.Rounding.{rounded}
use Rattle.mesh_plane.proofs.Rounding.{rounded_neg, rounded_not_above, rounded_not_below}
use Rattle.mesh_plane.proofs.Whole.{linear, lt_of_mul_lt_mul, mul_one, mul_sub, neg_mul, mul_neg}
use Rattle.mesh_plane.specs.Plane.{Point, minus, cross, turn}
use Rattle.mesh_plane.proofs.PointExprs.{point_var, coordinates, turned}
use Rattle.mesh_plane.proofs.Ring.{ring, var, ◌⊕◌, ◌⊖◌, ◌⊗◌}
use Rattle.mesh_lattice.specs.Split.{crossing_at, rounded_quotient}

-- a quotient of a number from 0 on is the one whose remainder is less than half of the divisor
nearest_up : (n m : ℕ) (k : ℤ) → 0 < m → 2 * unsigned_abs (pos n -ℤ (pos m *ℤ k)) < m → rounded (pos n) m ≡ k
nearest_up n m k some near =
    let q : ℕ = unsigned_abs (rounded (pos n) m) in
    let is : pos m *ℤ pos q ≡ pos (m * q) = pos-*ℤ-pos m q in
    let above : 2 * (q * m) < 2 * n + m + 1 = omega (arith, rounded_not_above (pos n) m) in
    let below : 2 * n < 2 * (q * m) + m = rounded_not_below (pos n) m some in
    let same : m * q ≡ q * m = mul_comm m q in
    let one : (pos m *ℤ (pos q -ℤ k)) <ℤ (pos m *ℤ pos 1) = rw (mul_sub (pos m) (pos q) k, mul_one (pos m)) (omega (arith, ints, linear, is, same)) in
    let two : (pos m *ℤ (k -ℤ pos q)) <ℤ (pos m *ℤ pos 1) = rw (mul_sub (pos m) k (pos q), mul_one (pos m)) (omega (arith, ints, linear, is, same)) in
    let least : pos 0 ≤ℤ pos m = omega (arith, ints) in
    omega (arith, ints, lt_of_mul_lt_mul (pos m) (pos q -ℤ k) (pos 1) least one, lt_of_mul_lt_mul (pos m) (k -ℤ pos q) (pos 1) least two)

-- of any number
pub nearest : (n : ℤ) (m : ℕ) (k : ℤ) → 0 < m → 2 * unsigned_abs (n -ℤ (pos m *ℤ k)) < m → rounded n m ≡ k
nearest (pos n) m k some near = nearest_up n m k some near
nearest (negsuc n) m k some near =
    let other : 2 * unsigned_abs (pos (suc n) -ℤ (pos m *ℤ neg_ℤ k)) < m = rw (mul_neg (pos m) k) (omega (arith, ints)) in
    rounded_neg (pos (suc n)) m some ∙ (ap neg_ℤ (nearest_up (suc n) m (neg_ℤ k) some other) ∙ neg_ℤ-neg_ℤ k)

sizes : (n x y : ℤ) → y ≡ neg_ℤ x → unsigned_abs (n -ℤ y) ≡ unsigned_abs (neg_ℤ n -ℤ x)
sizes n x y h = omega (arith, ints, linear)

-- whatever the sign of the divisor
pub nearest_quotient : (n d k : ℤ) → 2 * unsigned_abs (n -ℤ (d *ℤ k)) < unsigned_abs d → rounded_quotient n d ≡ k
nearest_quotient n (pos d) k near = nearest n d k (omega arith) near
nearest_quotient n (negsuc d) k near =
    let turned : 2 * unsigned_abs (neg_ℤ n -ℤ (pos (suc d) *ℤ k)) < suc d = subst (λ (j : ℕ). 2 * j < suc d) (sizes n (pos (suc d) *ℤ k) (negsuc d *ℤ k) (neg_mul (pos (suc d)) k)) near in
    nearest (neg_ℤ n) (suc d) k (omega arith) turned

-- what is left of a coordinate's way
rest_left : (a b s d g : ℤ) → ((a *ℤ d) +ℤ ((b -ℤ a) *ℤ s)) -ℤ (d *ℤ (a +ℤ g)) ≡ ((b -ℤ a) *ℤ s) -ℤ (g *ℤ d)
rest_left a b s d g =
    ring (a ∷ b ∷ s ∷ d ∷ g ∷ []) (((var 0 ⊗ var 3) ⊕ ((var 1 ⊖ var 0) ⊗ var 2)) ⊖ (var 3 ⊗ (var 0 ⊕ var 4))) (((var 1 ⊖ var 0) ⊗ var 2) ⊖ (var 4 ⊗ var 3)) refl

pub nearest_crossing : (a b s d g : ℤ) → 2 * unsigned_abs (((b -ℤ a) *ℤ s) -ℤ (g *ℤ d)) < unsigned_abs d → crossing_at a b s d ≡ a +ℤ g
nearest_crossing a b s d g near =
    nearest_quotient ((a *ℤ d) +ℤ ((b -ℤ a) *ℤ s)) d (a +ℤ g) (subst (λ (z : ℤ). 2 * unsigned_abs z < unsigned_abs d) (sym (rest_left a b s d g)) near)

-- the turn of an edge's other end
pub turn_shifted : (a b p r : Point) → turn a b r ≡ turn a b p +ℤ cross (minus b a) (minus r p)
turn_shifted a b p r =
    ring (coordinates (a ∷ b ∷ p ∷ r ∷ []) []) (turned (point_var 0) (point_var 1) (point_var 3))
    (turned (point_var 0) (point_var 1) (point_var 2) ⊕ (((var 2 ⊖ var 0) ⊗ (var 7 ⊖ var 5)) ⊖ ((var 3 ⊖ var 1) ⊗ (var 6 ⊖ var 4)))) refl

pub near_kept : (w w' s s' g g' d d' : ℤ) → w ≡ w' → s ≡ s' → g ≡ g' → d ≡ d' → 2 * unsigned_abs ((w *ℤ s) -ℤ (g *ℤ d)) < unsigned_abs d
    → 2 * unsigned_abs ((w' *ℤ s') -ℤ (g' *ℤ d')) < unsigned_abs d'
near_kept w w' s s' g g' d d' a b c e h =
    let rest : (w *ℤ s) -ℤ (g *ℤ d) ≡ (w' *ℤ s') -ℤ (g' *ℤ d') = λ i. (a i *ℤ b i) -ℤ (c i *ℤ e i) in
    omega (arith, h, ap unsigned_abs rest, ap unsigned_abs e)
