-- Lemmas over whole numbers: rounded quotients are odd, keep signs and orders, and stay within bounds.
use Rattle.std.proofs.Common.{◌≡◌, ℕ, ◌+◌, ◌*◌, ◌/◌, ◌<◌, ◌≤◌, refl, sym, ◌∙◌, ap, arith, zero, suc}
use Rattle.std.specs.Prelude.{ℤ, pos, negsuc, ◌*ℤ◌, ◌≤ℤ◌, neg_ℤ, unsigned_abs}
use Rattle.std.proofs.Math.Nat.{div-mul-le_self, div-eq_of_lt, div-eq_of_lt-le, lt-div-mul-add}
use Rattle.std.proofs.lemmas.Int.{ints, unsigned_abs-mul}
use lib.IntN.{neg_ℤ-neg_ℤ}
use Rattle.mesh_plane.specs.Rounding.{rounded}
use Rattle.mesh_plane.specs.Signs.{HasSignOf}
use Rattle.mesh_plane.proofs.Whole.{linear}
use Rattle.mesh_plane.proofs.Sizes.{div_monotone, size_neg}
use Rattle.mesh_plane.proofs.Signs.{order_kept, same_number, sign_self, sign_times, sign_through}

pub size_rounded : (a : ℤ) (d : ℕ) → unsigned_abs (rounded a d) ≡ (2 * unsigned_abs a + d) / (2 * d)
size_rounded (pos a) d = refl
size_rounded (negsuc a) d = size_neg (pos ((2 * suc a + d) / (2 * d)))

zero_rounded : (d : ℕ) → 0 < d → (2 * 0 + d) / (2 * d) ≡ 0
zero_rounded d h = div-eq_of_lt (omega arith)

pub rounded_sign : (a : ℤ) (d : ℕ) → 0 < d → HasSignOf a (rounded a d)
rounded_sign (pos zero) d h = record { nonneg = λ _. omega (arith, ints); nonpos = λ _. omega (arith, ints, zero_rounded d h) }
rounded_sign (pos (suc a)) d h = record { nonneg = λ _. omega (arith, ints); nonpos = λ l. absurd (omega (arith, ints)) }
rounded_sign (negsuc a) d h = record { nonneg = λ l. absurd (omega (arith, ints)); nonpos = λ _. omega (arith, ints) }

pub rounded_neg : (a : ℤ) (d : ℕ) → 0 < d → rounded (neg_ℤ a) d ≡ neg_ℤ (rounded a d)
rounded_neg (pos zero) d h = omega (arith, ints, zero_rounded d h)
rounded_neg (pos (suc a)) d h = refl
rounded_neg (negsuc a) d h = sym (neg_ℤ-neg_ℤ (pos ((2 * suc a + d) / (2 * d))))

-- a number of at least the size has a rounded quotient of at least the size
pub rounded_grows : (a b : ℤ) (d : ℕ) → 0 < d → unsigned_abs a ≤ unsigned_abs b → unsigned_abs (rounded a d) ≤ unsigned_abs (rounded b d)
rounded_grows a b d h l =
    let p : (2 * unsigned_abs a + d) / (2 * d) ≤ (2 * unsigned_abs b + d) / (2 * d) = div_monotone (2 * unsigned_abs a + d) (2 * unsigned_abs b + d) (2 * d) (omega arith) (omega arith) in
    omega (arith, size_rounded a d, size_rounded b d)

pub rounded_monotone : (a b : ℤ) (d : ℕ) → 0 < d → a ≤ℤ b → rounded a d ≤ℤ rounded b d
rounded_monotone a b d h l =
    order_kept b (rounded b d) a (rounded a d) (rounded_sign b d h) (rounded_sign a d h) (rounded_grows a b d h) (rounded_grows b a d h) l

-- a multiple of the divisor has its exact quotient
pub rounded_multiple : (k : ℤ) (d : ℕ) → 0 < d → rounded (k *ℤ pos d) d ≡ k
rounded_multiple k d h =
    let a : HasSignOf k (k *ℤ pos d) = sign_times k (pos d) (omega (arith, ints)) in
    let b : HasSignOf k (rounded (k *ℤ pos d) d) = sign_through a (rounded_sign (k *ℤ pos d) d h) in
    let e : (2 * (unsigned_abs k * d) + d) / (2 * d) ≡ unsigned_abs k = div-eq_of_lt-le (2 * d) (omega arith) (omega arith) in
    let f : unsigned_abs (rounded (k *ℤ pos d) d) ≡ unsigned_abs k = size_rounded (k *ℤ pos d) d ∙ ap (λ (n : ℕ). (2 * n + d) / (2 * d)) (unsigned_abs-mul k (pos d)) ∙ e in
    same_number b (sign_self k) f

pub rounded_at_least : (l a : ℤ) (d : ℕ) → 0 < d → (l *ℤ pos d) ≤ℤ a → l ≤ℤ rounded a d
rounded_at_least l a d h p = omega (arith, linear, rounded_multiple l d h, rounded_monotone (l *ℤ pos d) a d h p)

pub rounded_at_most : (a l : ℤ) (d : ℕ) → 0 < d → a ≤ℤ (l *ℤ pos d) → rounded a d ≤ℤ l
rounded_at_most a l d h p = omega (arith, linear, rounded_multiple l d h, rounded_monotone a (l *ℤ pos d) d h p)

-- a number of at most `k` times the divisor has a quotient of at most `k`, sizes compared
pub rounded_within : (a : ℤ) (d k : ℕ) → 0 < d → unsigned_abs a ≤ k * d → unsigned_abs (rounded a d) ≤ k
rounded_within a d k h l =
    let e : (2 * (k * d) + d) / (2 * d) ≡ k = div-eq_of_lt-le (2 * d) (omega arith) (omega arith) in
    let p : (2 * unsigned_abs a + d) / (2 * d) ≤ (2 * (k * d) + d) / (2 * d) = div_monotone (2 * unsigned_abs a + d) (2 * (k * d) + d) (2 * d) (omega arith) (omega arith) in
    omega (arith, size_rounded a d)

-- a rounded quotient lies at most a half away
pub rounded_not_above : (a : ℤ) (d : ℕ) → 2 * (unsigned_abs (rounded a d) * d) ≤ 2 * unsigned_abs a + d
rounded_not_above a d = rw (size_rounded a d) (omega (arith, div-mul-le_self (2 * unsigned_abs a + d) (2 * d)))

pub rounded_not_below : (a : ℤ) (d : ℕ) → 0 < d → 2 * unsigned_abs a < 2 * (unsigned_abs (rounded a d) * d) + d
rounded_not_below a d h =
    let p : 0 < 2 * d = omega arith in
    let q : 2 * unsigned_abs a + d < (2 * unsigned_abs a + d) / (2 * d) * (2 * d) + 2 * d = lt-div-mul-add p in
    rw (size_rounded a d) (omega arith)

pub rounded_zero : (a : ℤ) (d : ℕ) → 0 < d → rounded a d ≡ pos 0 → 2 * unsigned_abs a < d
rounded_zero a d h e =
    let z : unsigned_abs (rounded a d) ≡ 0 = ap unsigned_abs e in
    let n : unsigned_abs (rounded a d) * d ≡ 0 * d = ap (λ (k : ℕ). k * d) z in
    omega (arith, rounded_not_below a d h)
