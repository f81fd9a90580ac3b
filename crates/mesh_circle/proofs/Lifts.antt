-- Lemmas over whole numbers: how far a squared length is lifted.
use Rattle.std.proofs.Common.{◌≡◌, ℕ, ◌+◌, ◌-◌, ◌*◌, ◌/◌, ◌<◌, ◌≤◌, ◌^◌, ◌⊎◌, inl, inr, ap, arith, suc, true, false}
use Rattle.std.specs.Prelude.{leb}
use Rattle.std.specs.Int.{leading_zeros, w64}
use Rattle.std.specs.Int.Count.{count_leading_zeros, leading_unique}
use Rattle.std.proofs.lemmas.Bool.Decides.{leb_tells}
use Rattle.std.proofs.lemmas.Nat.{leading_length, pow-add, pow_pos, mul-lt}
use Rattle.std.proofs.Math.Nat.{pow-le-pow_right, pow-suc, mul-le-mul_left, mul-le-mul_right}
use Rattle.mesh_num.specs.Widths.{IsUnit}
use Rattle.mesh_circle.specs.Tangents.{doublings, lift}

-- ---- leading zeros

-- a number below a power of two has so many leading zeros
zeros_below : (k a : ℕ) → a < 2 ^ 64 → a < 2 ^ k → 64 ≤ leading_zeros w64 a + k
zeros_below k a fits below = by (leading_length 64 a fits)
  where
    by : (m : ℕ) × (count_leading_zeros 64 a + m ≡ 64) × (a < 2 ^ m) × (2 ^ m ≤ 2 * a + 1) →
        64 ≤ leading_zeros w64 a + k
    by (m, e, g, l) = at (leb_tells m k)
      where
        at : ((leb m k ≡ true) × (m ≤ k)) ⊎ ((leb m k ≡ false) × (k < m)) → 64 ≤ leading_zeros w64 a + k
        at (inl o) = omega (arith, e, o.1)
        at (inr o) =
            let p : 2 ^ suc k ≤ 2 ^ m = pow-le-pow_right (omega arith) (omega (arith, o.1)) in
            absurd (omega (arith, p, pow-suc 2 k, l, below))

-- a power of two has as many as leave place for it
zeros_of_power : (k : ℕ) → k ≤ 63 → leading_zeros w64 (2 ^ k) + k ≡ 63
zeros_of_power k h =
    let e : 63 - k ≡ count_leading_zeros 64 (2 ^ k) =
    leading_unique 64 (2 ^ k) (63 - k) (suc k) (omega arith) (omega (arith, pow-suc 2 k, pow_pos k))
    (omega (arith, pow-suc 2 k)) in
    omega (arith, e)

-- the bound of the wide type is a power of two
bound_power : (unit : ℕ) → IsUnit unit → (k : ℕ) × (8 * unit * unit ≡ 2 ^ k) × (k ≤ 63)
unfolding IsUnit
bound_power unit (inl e) = (31, ap (λ (u : ℕ). 8 * u * u) e, omega arith)
bound_power unit (inr e) = (63, ap (λ (u : ℕ). 8 * u * u) e, omega arith)

pub unit_most : (unit : ℕ) → IsUnit unit → unit ≤ 2 ^ 30
unfolding IsUnit
unit_most unit (inl e) = omega (arith, e)
unit_most unit (inr e) = omega (arith, e)

pub bound_most : (unit : ℕ) → IsUnit unit → 8 * unit * unit ≤ 2 ^ 63
bound_most unit u = by (bound_power unit u)
  where
    by : (k : ℕ) × (8 * unit * unit ≡ 2 ^ k) × (k ≤ 63) → 8 * unit * unit ≤ 2 ^ 63
    by (k, e, l) = let p : 2 ^ k ≤ 2 ^ 63 = pow-le-pow_right (omega arith) l in omega (arith, e, p)

-- below it a number has more leading zeros
pub zeros_more : (unit square : ℕ) → IsUnit unit → square < 8 * unit * unit →
    leading_zeros w64 (8 * unit * unit) + 1 ≤ leading_zeros w64 square
zeros_more unit square u h = by (bound_power unit u)
  where
    by : (k : ℕ) × (8 * unit * unit ≡ 2 ^ k) × (k ≤ 63) →
        leading_zeros w64 (8 * unit * unit) + 1 ≤ leading_zeros w64 square
    by (k, e, l) =
        let p : 2 ^ k ≤ 2 ^ 63 = pow-le-pow_right (omega arith) l in
        let z : leading_zeros w64 (8 * unit * unit) ≡ leading_zeros w64 (2 ^ k) = ap (leading_zeros w64) e in
        omega (arith, z, zeros_of_power k l, zeros_below k square (omega (arith, e, h, p)) (omega (arith, e, h)))

-- ---- the power of two

pub lift_some : (unit square : ℕ) → 0 < lift unit square
lift_some unit square = pow_pos (doublings unit square / 2)

half_twice : (d k : ℕ) → d ≤ k → 2 ^ (d / 2) * 2 ^ (d / 2) ≤ 2 ^ k
half_twice d k h =
    let p : 2 ^ (d / 2 + d / 2) ≤ 2 ^ k = pow-le-pow_right (omega arith) (omega (arith, h)) in
    omega (arith, p, pow-add 2 (d / 2) (d / 2))

-- a squared length stays below 2 ^ 63 where it is lifted
pub lifted_most : (unit square : ℕ) → square < 2 ^ 63 → square * (lift unit square * lift unit square) < 2 ^ 63
lifted_most unit square h = by (leading_length 64 square (omega (arith, h)))
  where
    by : (m : ℕ) × (count_leading_zeros 64 square + m ≡ 64) × (square < 2 ^ m) × (2 ^ m ≤ 2 * square + 1) →
        square * (lift unit square * lift unit square) < 2 ^ 63
    by (m, e, g, l) =
        let z : 64 ≤ leading_zeros w64 square + 63 = zeros_below 63 square (omega (arith, h)) h in
        let t : lift unit square * lift unit square ≤ 2 ^ (63 - m) =
        half_twice (doublings unit square) (63 - m) (omega (arith, e, z)) in
        let some : 0 < lift unit square * lift unit square =
        mul-lt 0 0 _ _ (lift_some unit square) (lift_some unit square) in
        let s : square * (lift unit square * lift unit square) < 2 ^ m * (lift unit square * lift unit square) =
        omega (arith, mul-le-mul_right (lift unit square * lift unit square) g, some) in
        let r : 2 ^ m * (lift unit square * lift unit square) ≤ 2 ^ m * 2 ^ (63 - m) = mul-le-mul_left (2 ^ m) t in
        let w : 2 ^ (m + (63 - m)) ≡ 2 ^ m * 2 ^ (63 - m) = pow-add 2 m (63 - m) in
        let q : m + (63 - m) ≡ 63 = omega (arith, e, z) in
        let v : 2 ^ (m + (63 - m)) ≡ 2 ^ 63 = ap (λ (k : ℕ). 2 ^ k) q in
        omega (arith, s, r, w, v)

-- so does the length that no normal passes
pub normal_length_most : (unit square : ℕ) → square < 2 ^ 63 → square * lift unit square < 2 ^ 63
normal_length_most unit square h =
    let s : square * lift unit square * 1 ≤ square * lift unit square * lift unit square =
    mul-le-mul_left (square * lift unit square) (lift_some unit square) in
    omega (arith, s, lifted_most unit square h)
