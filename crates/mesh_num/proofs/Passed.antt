-- Lemmas over whole numbers: numbers that are passed on as bits, at sizes that fit.
use Rattle.std.proofs.Common.{◌≡◌, ℕ, ◌^◌, ◌≤◌, ◌∙◌, ap, arith}
use Rattle.std.specs.Prelude.{ℤ, pos, neg_ℤ, ◌+ℤ◌, ◌-ℤ◌, ◌*ℤ◌, unsigned_abs}
use Rattle.std.proofs.lemmas.Int.{ints, to_z-of_z, to_z_pos, fits_signed_from_abs}
use mir.Syntax.{w32, w128}
use mir.Val.{SFits, to_z, of_z}
use Rattle.mesh_plane.specs.Plane.{Point, opposite}
use Rattle.mesh_plane.proofs.Sizes.{le_of_squares, sum_size, difference_size, product_size, size_kept, length_opposite}
use Rattle.mesh_sine.specs.Sine.{IsWithinOne}
use Rattle.mesh_num.specs.Direction.{IsShort}
use Rattle.mesh_num.proofs.Scaling.{short_bounded}

-- ---- sines and directions

-- a sine and a cosine that are together at most 2 ^ 30 long
pub sines_small : (s : Point) → IsWithinOne s → (unsigned_abs s.0 ≤ 2 ^ 30) × (unsigned_abs s.1 ≤ 2 ^ 30)
sines_small s h = (le_of_squares (unsigned_abs s.0) (2 ^ 30) (omega arith), le_of_squares (unsigned_abs s.1) (2 ^ 30) (omega arith))

-- a number of 32 bits, widened to 128
pub widened_fits : (z : ℤ) → unsigned_abs z ≤ 2 ^ 30 → SFits w128 (to_z w32 (of_z w32 z))
widened_fits z h = rw (to_z-of_z w32 z (fits_signed_from_abs w32 z (omega arith))) (fits_signed_from_abs w128 z (omega arith))

pub widened_is : (z : ℤ) → unsigned_abs z ≤ 2 ^ 30 → to_z w128 (of_z w128 (to_z w32 (of_z w32 z))) ≡ z
widened_is z h =
    ap (λ (y : ℤ). to_z w128 (of_z w128 y)) (to_z-of_z w32 z (fits_signed_from_abs w32 z (omega arith))) ∙ size_kept z (omega arith)

-- a direction
pub short_passed : (unit : ℕ) (n : Point) → unit ≤ 2 ^ 30 → IsShort unit n → (to_z w128 (of_z w128 n.0), to_z w128 (of_z w128 n.1)) ≡ n
short_passed unit n l h =
    let b : (unsigned_abs n.0 ≤ unit) × (unsigned_abs n.1 ≤ unit) = short_bounded unit n h in
    let x = size_kept n.0 (omega arith) in
    let y = size_kept n.1 (omega arith) in
    λ i. (x i, y i)

-- ---- products of a sine and a component, and their sums

pub passed_product : (a b : ℤ) → unsigned_abs a ≤ 2 ^ 30 → unsigned_abs b ≤ 2 ^ 31
    → to_z w128 (of_z w128 a) *ℤ to_z w128 (of_z w128 b) ≡ a *ℤ b
passed_product a b h l =
    let x = size_kept a (omega arith) in
    let y = size_kept b (omega arith) in
    λ i. x i *ℤ y i

pub difference_fits : (a b : ℤ) → unsigned_abs a ≤ 2 ^ 61 → unsigned_abs b ≤ 2 ^ 61 → SFits w128 (to_z w128 (of_z w128 a) -ℤ to_z w128 (of_z w128 b))
difference_fits a b h l =
    let s : unsigned_abs (a -ℤ b) ≤ 2 ^ 62 = difference_size a b (2 ^ 61) (2 ^ 61) h l in
    rw (size_kept a (omega arith), size_kept b (omega arith)) (fits_signed_from_abs w128 (a -ℤ b) (omega arith))

pub sum_fits : (a b : ℤ) → unsigned_abs a ≤ 2 ^ 61 → unsigned_abs b ≤ 2 ^ 61 → SFits w128 (to_z w128 (of_z w128 a) +ℤ to_z w128 (of_z w128 b))
sum_fits a b h l =
    let s : unsigned_abs (a +ℤ b) ≤ 2 ^ 62 = sum_size a b (2 ^ 61) (2 ^ 61) h l in
    rw (size_kept a (omega arith), size_kept b (omega arith)) (fits_signed_from_abs w128 (a +ℤ b) (omega arith))

pub passed_difference : (a b : ℤ) → unsigned_abs a ≤ 2 ^ 61 → unsigned_abs b ≤ 2 ^ 61
    → to_z w128 (of_z w128 (to_z w128 (of_z w128 a) -ℤ to_z w128 (of_z w128 b))) ≡ a -ℤ b
passed_difference a b h l =
    let s : unsigned_abs (a -ℤ b) ≤ 2 ^ 62 = difference_size a b (2 ^ 61) (2 ^ 61) h l in
    rw (size_kept a (omega arith), size_kept b (omega arith)) (size_kept (a -ℤ b) (omega arith))

pub passed_sum : (a b : ℤ) → unsigned_abs a ≤ 2 ^ 61 → unsigned_abs b ≤ 2 ^ 61
    → to_z w128 (of_z w128 (to_z w128 (of_z w128 a) +ℤ to_z w128 (of_z w128 b))) ≡ a +ℤ b
passed_sum a b h l =
    let s : unsigned_abs (a +ℤ b) ≤ 2 ^ 62 = sum_size a b (2 ^ 61) (2 ^ 61) h l in
    rw (size_kept a (omega arith), size_kept b (omega arith)) (size_kept (a +ℤ b) (omega arith))

-- ---- opposites

pub product_small : (a b : ℤ) → unsigned_abs a ≤ 2 ^ 63 → unsigned_abs b ≤ 2 ^ 63 → unsigned_abs (a *ℤ b) ≤ 2 ^ 126
product_small a b h l =
    product_size a b (2 ^ 63) (2 ^ 63) h l

zero_less : (z : ℤ) → (pos 0 -ℤ z) ≡ neg_ℤ z
zero_less z = omega (arith, ints)

pub opposite_size : (z : ℤ) → unsigned_abs z ≤ 2 ^ 126 → unsigned_abs (neg_ℤ z) ≤ 2 ^ 126
opposite_size z h = omega (arith, ints)

pub opposite_fits : (z : ℤ) → unsigned_abs z ≤ 2 ^ 126 → SFits w128 (pos 0 -ℤ to_z w128 (of_z w128 z))
opposite_fits z h =
    let s : unsigned_abs (neg_ℤ z) ≤ 2 ^ 126 = opposite_size z h in
    rw (size_kept z (omega arith), zero_less z) (fits_signed_from_abs w128 (neg_ℤ z) (omega arith))

pub passed_opposite : (z : ℤ) → unsigned_abs z ≤ 2 ^ 126 → to_z w128 (of_z w128 (pos 0 -ℤ to_z w128 (of_z w128 z))) ≡ neg_ℤ z
passed_opposite z h = rw (size_kept z (omega arith), zero_less z) (size_kept (neg_ℤ z) (omega (arith, opposite_size z h)))

-- the opposite of a number without a sign
pub negated_fits : (k : ℕ) → k ≤ 2 ^ 126 → SFits w128 (pos 0 -ℤ to_z w128 k)
negated_fits k h = rw (to_z_pos w128 k (omega arith), zero_less (pos k)) (fits_signed_from_abs w128 (neg_ℤ (pos k)) (omega (arith, opposite_size (pos k) h)))

pub passed_negated : (k : ℕ) → k ≤ 2 ^ 126 → to_z w128 (of_z w128 (pos 0 -ℤ to_z w128 k)) ≡ neg_ℤ (pos k)
passed_negated k h = rw (to_z_pos w128 k (omega arith), zero_less (pos k)) (size_kept (neg_ℤ (pos k)) (omega (arith, opposite_size (pos k) h)))

-- ---- the other way

pub opposite_passed : (unit : ℕ) (n : Point) → unit ≤ 2 ^ 30 → IsShort unit n
    → (to_z w128 (of_z w128 (pos 0 -ℤ n.0)), to_z w128 (of_z w128 (pos 0 -ℤ n.1))) ≡ opposite n
opposite_passed unit n l h =
    let b : (unsigned_abs n.0 ≤ unit) × (unsigned_abs n.1 ≤ unit) = short_bounded unit n h in
    let p : pos 0 -ℤ n.0 ≡ neg_ℤ n.0 = omega (arith, ints) in
    let q : pos 0 -ℤ n.1 ≡ neg_ℤ n.1 = omega (arith, ints) in
    let x : to_z w128 (of_z w128 (pos 0 -ℤ n.0)) ≡ neg_ℤ n.0 = size_kept (pos 0 -ℤ n.0) (omega (arith, ints)) ∙ p in
    let y : to_z w128 (of_z w128 (pos 0 -ℤ n.1)) ≡ neg_ℤ n.1 = size_kept (pos 0 -ℤ n.1) (omega (arith, ints)) ∙ q in
    λ i. (x i, y i)

pub short_opposite : (unit : ℕ) (n : Point) → IsShort unit n → IsShort unit (opposite n)
short_opposite unit n h = rw (length_opposite n) h
