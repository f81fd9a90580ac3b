-- Lemmas over whole numbers: sizes, squares and quotients of natural numbers.
use Rattle.std.proofs.Common.{◌≡◌, ℕ, ◌+◌, ◌*◌, ◌-◌, ◌/◌, ◌^◌, ◌<◌, ◌≤◌, ◌⊎◌, inl, inr, zero, suc, refl, arith, ⊎_elim}
use Rattle.std.specs.Prelude.{◌≢◌, ℤ, pos, negsuc, ◌+ℤ◌, ◌-ℤ◌, ◌*ℤ◌, neg_ℤ, unsigned_abs}
use Rattle.std.proofs.Math.Nat.{mul-le-mul, div-mul-le_self}
use Rattle.std.proofs.lemmas.Nat.{mul-lt, le-div}
use Rattle.std.proofs.lemmas.Bool.{cases_lt}
use Rattle.std.proofs.lemmas.Int.{ints, unsigned_abs-mul, to_z-of_z, fits_signed_from_abs}
use mir.Syntax.{w128}
use mir.Val.{to_z, of_z}
use Rattle.mesh_plane.specs.Bounds.{IsWithin, IsSmall}
use Rattle.mesh_plane.specs.Plane.{Point, minus, dot, opposite, length_sq}
use Rattle.mesh_plane.proofs.Whole.{linear}

pub le_of_squares : (j k : ℕ) → j * j ≤ k * k → j ≤ k
le_of_squares j k h = ⊎_elim (λ l. absurd (omega (arith, mul-lt k k j j l l))) (λ l. l) (cases_lt k j)

pub lt_of_squares : (j k : ℕ) → j * j < k * k → j < k
lt_of_squares j k h =
    ⊎_elim (λ l. l) (λ l. let m : k * k ≤ j * j = mul-le-mul l l in absurd (omega arith)) (cases_lt j k)

pub square_none : (n : ℕ) → n * n ≤ 0 → n ≡ 0
square_none zero h = refl
square_none (suc n) h = absurd (omega arith)

pub two_products : (k l : ℕ) → 2 * (k * l) ≤ k * k + l * l
two_products k l = ⊎_elim (λ h. from k (l - k) l (omega arith)) (λ h. let p : 2 * (l * k) ≤ l * l + k * k = from l (k - l) k (omega arith) in omega arith) (cases_lt k l)
  where
    from : (a d b : ℕ) → b ≡ a + d → 2 * (a * b) ≤ a * a + b * b
    from a d b e = rw e (omega arith)

pub div_monotone : (m n k : ℕ) → 0 < k → m ≤ n → m / k ≤ n / k
div_monotone m n k h l = le-div (m / k) n k h (omega (arith, div-mul-le_self m k))

-- ---- the size of a whole number

pub size_neg : (z : ℤ) → unsigned_abs (neg_ℤ z) ≡ unsigned_abs z
size_neg z = omega (arith, ints)

pub size_square : (z : ℤ) → z *ℤ z ≡ pos (unsigned_abs z * unsigned_abs z)
size_square (pos n) = refl
size_square (negsuc n) = refl

pub size_zero : (z : ℤ) → unsigned_abs z ≡ 0 → z ≡ pos 0
size_zero z h = omega (arith, ints)

pub size_positive : (z : ℤ) → z ≢ pos 0 → 0 < unsigned_abs z
size_positive (pos zero) h = absurd (h refl)
size_positive (pos (suc n)) h = omega arith
size_positive (negsuc n) h = omega arith

pub small_size : (h : ℕ) (z : ℤ) → IsSmall h z → unsigned_abs z < h
small_size h z s = omega (arith, ints, s.low, s.high)

pub within_size : (h : ℕ) (z : ℤ) → IsWithin h z → unsigned_abs z ≤ h
within_size h z w = omega (arith, ints, w.low, w.high)

pub sum_size : (a b : ℤ) (m n : ℕ) → unsigned_abs a ≤ m → unsigned_abs b ≤ n → unsigned_abs (a +ℤ b) ≤ m + n
sum_size a b m n h k = omega (arith, ints)

pub difference_size : (a b : ℤ) (m n : ℕ) → unsigned_abs a ≤ m → unsigned_abs b ≤ n → unsigned_abs (a -ℤ b) ≤ m + n
difference_size a b m n h k = omega (arith, ints)

pub product_size : (a b : ℤ) (m n : ℕ) → unsigned_abs a ≤ m → unsigned_abs b ≤ n → unsigned_abs (a *ℤ b) ≤ m * n
product_size a b m n h k = omega (arith, unsigned_abs-mul a b, mul-le-mul h k)

-- a number of at most 127 bits, without its sign, is the same after it was passed on in 128 bits
pub size_kept : (z : ℤ) → unsigned_abs z < 2 ^ 127 → to_z w128 (of_z w128 z) ≡ z
size_kept z h = to_z-of_z w128 z (fits_signed_from_abs w128 z h)

-- ---- the squared length of a vector

pub dot_self : (v : Point) → dot v v ≡ pos (length_sq v)
dot_self v = omega (arith, linear, size_square v.0, size_square v.1)

-- different points are some length apart
pub apart_some : (p c : Point) → p ≢ c → 0 < length_sq (minus p c)
apart_some p c apart = by (cases_lt 0 (length_sq (minus p c)))
  where
    by : (0 < length_sq (minus p c)) ⊎ (length_sq (minus p c) ≤ 0) → 0 < length_sq (minus p c)
    by (inl h) = h
    by (inr h) =
        let x : p.0 -ℤ c.0 ≡ pos 0 = size_zero (p.0 -ℤ c.0) (square_none (unsigned_abs (p.0 -ℤ c.0)) (omega arith)) in
        let y : p.1 -ℤ c.1 ≡ pos 0 = size_zero (p.1 -ℤ c.1) (square_none (unsigned_abs (p.1 -ℤ c.1)) (omega arith)) in
        let ex : p.0 ≡ c.0 = omega (arith, ints) in
        let ey : p.1 ≡ c.1 = omega (arith, ints) in
        absurd (apart (λ i. (ex i, ey i)))

pub length_opposite : (v : Point) → length_sq (opposite v) ≡ length_sq v
length_opposite v = rw (size_neg v.0, size_neg v.1) refl
