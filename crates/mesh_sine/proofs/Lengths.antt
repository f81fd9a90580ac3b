-- Lemmas over pairs: halves, sums and the end of the fold are at most `one` long.
use Rattle.std.proofs.Common.{◌≡◌, ℕ, ◌+◌, ◌*◌, ◌-◌, ◌/◌, ◌%◌, ◌^◌, ◌<◌, ◌≤◌, refl, sym, ap, subst, arith, zero, suc, lit<, ⊎_elim}
use Rattle.std.specs.Prelude.{min, nat_eq, pos, ◌≤ℤ◌}
use Rattle.std.proofs.Math.Nat.{mul-le-mul, div-mul-le_self, le_of_mul-le-mul_right}
use Rattle.std.proofs.lemmas.Bool.{cases_lt, cases_eq, cond-true, cond-false, eq-eqb, ne_eqb}
use Rattle.std.proofs.lemmas.Int.{ints}
use Rattle.mesh_plane.proofs.Sizes.{le_of_squares, two_products}
use Rattle.mesh_sine.specs.Sine.{one, root, half_cosine, half_pair, halved, sum_pair, with_bits, low_pair, sin_cos}
use Rattle.mesh_sine.proofs.Roots.{root_is}

-- a pair that is at most `one` long
abbrev pub IsPair : ℕ × ℕ → Type 0
IsPair a = a.0 * a.0 + a.1 * a.1 ≤ one * one

pub pair_bounded : (a : ℕ × ℕ) → IsPair a → (a.0 ≤ one) × (a.1 ≤ one)
pair_bounded a h = (le_of_squares a.0 one (omega arith), le_of_squares a.1 one (omega arith))

-- ---- halves

half_is_pair : (a : ℕ × ℕ) → IsPair a → IsPair (half_pair a)
unfolding half_pair half_cosine
half_is_pair a h =
    let n = one * (one + a.0) / 2 in
    let l : a.0 ≤ one = (pair_bounded a h).0 in
    let m : n ≤ one * one = omega (arith, div-mul-le_self (one * (one + a.0)) 2) in
    fits (root n) (a.1 * one / (2 * root n)) (omega (arith, (root_is n).within))
  where
    fits : (c q : ℕ) → c * c ≤ one * one → c * c + min q (root (one * one - c * c)) * min q (root (one * one - c * c)) ≤ one * one
    fits c q h =
        let r = root (one * one - c * c) in
        let l : min q r ≤ r = omega arith in
        let m : min q r * min q r ≤ r * r = mul-le-mul l l in
        omega (arith, (root_is (one * one - c * c)).within)

pub halved_is_pair : (k : ℕ) → IsPair (halved k)
unfolding halved
halved_is_pair zero = omega arith
halved_is_pair (suc k) = half_is_pair (halved k) (halved_is_pair k)

-- ---- sums

-- (x - y)² + (u + v)² = x² + y² + u² + v² where xy = uv
squares_sum : (x y u v : ℕ) → x * y ≡ u * v → (x - y) * (x - y) + (u + v) * (u + v) ≤ x * x + y * y + (u * u + v * v)
squares_sum x y u v e =
    ⊎_elim
    (λ l. below (x - y) (omega arith))
    (λ l. above (x - y) (omega arith))
    (cases_lt x y)
  where
    below : (p : ℕ) → p ≡ 0 → p * p + (u + v) * (u + v) ≤ x * x + y * y + (u * u + v * v)
    below p d = rw d (omega (arith, two_products x y))

    above : (p : ℕ) → x ≡ y + p → p * p + (u + v) * (u + v) ≤ x * x + y * y + (u * u + v * v)
    above p d =
        let f : (y + p) * y ≡ u * v = subst (λ (n : ℕ). n * y ≡ u * v) d e in
        rw d (omega arith)

sum_length : (a b c d m : ℕ) → a * a + b * b ≤ m → c * c + d * d ≤ m → (a * c - b * d) * (a * c - b * d) + (b * c + a * d) * (b * c + a * d) ≤ m * m
sum_length a b c d m h l =
    let e : a * c * (b * d) ≡ b * c * (a * d) = omega arith in
    let p : (a * a + b * b) * (c * c + d * d) ≤ m * m = mul-le-mul h l in
    omega (arith, squares_sum (a * c) (b * d) (b * c) (a * d) e)

-- numbers cut by `k` have a length cut by `k`
pub cut_length : (p q k m : ℕ) → 0 < k → p * p + q * q ≤ m * (k * k) → p / k * (p / k) + q / k * (q / k) ≤ m
cut_length p q k m h l =
    let a : p / k * k ≤ p = div-mul-le_self p k in
    let b : q / k * k ≤ q = div-mul-le_self q k in
    let c : p / k * k * (p / k * k) ≤ p * p = mul-le-mul a a in
    let d : q / k * k * (q / k * k) ≤ q * q = mul-le-mul b b in
    let s : 0 < k * k = mul-le-mul h h in
    let e : (p / k * (p / k) + q / k * (q / k)) * (k * k) ≤ m * (k * k) = omega arith in
    le_of_mul-le-mul_right e s

pub sum_is_pair : (a b : ℕ × ℕ) → IsPair a → IsPair b → IsPair (sum_pair a b)
sum_is_pair a b h l =
    cut_length (a.0 * b.0 - a.1 * b.1) (a.1 * b.0 + a.0 * b.1) one (one * one) (lit< tt) (sum_length a.0 a.1 b.0 b.1 (one * one) h l)

-- ---- the fold over the bits

pub bit_taken : (low j : ℕ) (a : ℕ × ℕ) → low / 2 ^ j % 2 ≡ 1 → with_bits low (suc j) a ≡ with_bits low j (sum_pair a (halved (30 - j)))
unfolding with_bits
bit_taken low j a h = ap (with_bits low j) (cond-true (nat_eq (low / 2 ^ j % 2) 1) (sum_pair a (halved (30 - j))) a (eq-eqb (low / 2 ^ j % 2) 1 h))

pub bit_left : (low j : ℕ) (a : ℕ × ℕ) → (low / 2 ^ j % 2 ≡ 1 → ⊥) → with_bits low (suc j) a ≡ with_bits low j a
unfolding with_bits
bit_left low j a h = ap (with_bits low j) (cond-false (nat_eq (low / 2 ^ j % 2) 1) (sum_pair a (halved (30 - j))) a (ne_eqb (low / 2 ^ j % 2) 1 h))

pub bits_end : (low : ℕ) (a : ℕ × ℕ) → with_bits low 0 a ≡ a
unfolding with_bits
bits_end low a = refl

pub with_bits_is_pair : (low j : ℕ) (a : ℕ × ℕ) → IsPair a → IsPair (with_bits low j a)
with_bits_is_pair low zero a h = subst IsPair (sym (bits_end low a)) h
with_bits_is_pair low (suc j) a h =
    ⊎_elim
    (λ t. subst IsPair (sym (bit_taken low j a t)) (with_bits_is_pair low j (sum_pair a (halved (30 - j))) (sum_is_pair a (halved (30 - j)) h (halved_is_pair (30 - j)))))
    (λ t. subst IsPair (sym (bit_left low j a t)) (with_bits_is_pair low j a h))
    (cases_eq (low / 2 ^ j % 2) 1)

-- below a quarter turn the sine is at most 1
pub sine_at_most : (bits : ℕ) → bits < 2 ^ 30 → (sin_cos bits).0 ≤ℤ pos (2 ^ 30)
sine_at_most bits h =
    let q : bits / 2 ^ 30 ≡ 0 = omega arith in
    let p : (low_pair (bits % 2 ^ 30)).1 ≤ one = (pair_bounded (low_pair (bits % 2 ^ 30)) (with_bits_is_pair (bits % 2 ^ 30) 30 (one, 0) (omega arith))).1 in
    rw q (omega (arith, ints))
