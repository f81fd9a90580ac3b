-- Lemmas over whole numbers: what is small is read back of 128 bits, as are sums and products of small numbers.
use Rattle.std.proofs.Common.{◌≡◌, ◌≢◌, ℕ, ◌≤◌, ◌^◌, arith, lit<}
use Rattle.std.specs.Prelude.{ℤ, pos, neg_ℤ, ◌+ℤ◌, ◌-ℤ◌, ◌*ℤ◌, unsigned_abs}
use Rattle.std.proofs.lemmas.Int.{to_z-of_z, fits_signed_from_abs, fits_signed_mul, ints}
use mir.Syntax.{w32, w128}
use mir.Val.{SFits, to_z, of_z}
use Rattle.mesh_plane.specs.Bounds.{IsWithin, IsSmall}
use Rattle.mesh_plane.specs.Plane.{Point, plus, minus, cross, dot}
use Rattle.mesh_plane.proofs.Sizes.{le_of_squares, product_size, size_positive, within_size}
use Rattle.mesh_num.specs.Direction.{IsShort}
use Rattle.mesh_num.specs.Quotient.{rounded_product}
use Rattle.mesh_join.specs.Private.Miters.{IsNarrow}
use Rattle.mesh_join.proofs.Quotients.{product_small, product_read, cross_small, dot_small}

abbrev pub read : ℤ → ℤ
read z = to_z w128 (of_z w128 z)

pub small_read : (z : ℤ) → unsigned_abs z ≤ 2 ^ 101 → read z ≡ z
small_read z h = to_z-of_z w128 z (fits_signed_from_abs w128 z (omega arith))

pub half_read : (z : ℤ) → unsigned_abs z ≤ 2 ^ 63 → read z ≡ z
half_read z h = small_read z (omega arith)

pub opposite_fits : (z : ℤ) → unsigned_abs z ≤ 2 ^ 100 → SFits w128 (neg_ℤ (read z))
opposite_fits z h = rw (small_read z (omega arith)) (omega (arith, ints))

-- ---- sums

sum_read : (a b : ℤ) → unsigned_abs a ≤ 2 ^ 100 → unsigned_abs b ≤ 2 ^ 100 → read (read a +ℤ read b) ≡ a +ℤ b
sum_read a b h k =
    rw (small_read a (omega arith), small_read b (omega arith)) (small_read (a +ℤ b) (omega (arith, ints)))

pub plus_read : (p v : Point) → IsNarrow (2 ^ 100) p → IsNarrow (2 ^ 100) v →
    ◌≡◌ {A = Point} (read (read p.0 +ℤ read v.0), read (read p.1 +ℤ read v.1)) (plus p v)
plus_read p v h k = λ i. (sum_read p.0 v.0 h.x k.x i, sum_read p.1 v.1 h.y k.y i)

difference_read : (a b : ℤ) → unsigned_abs a ≤ 2 ^ 100 → unsigned_abs b ≤ 2 ^ 100 → read (read a -ℤ read b) ≡ a -ℤ b
difference_read a b h k =
    rw (small_read a (omega arith), small_read b (omega arith)) (small_read (a -ℤ b) (omega (arith, ints)))

pub minus_read : (p v : Point) → IsNarrow (2 ^ 100) p → IsNarrow (2 ^ 100) v →
    ◌≡◌ {A = Point} (read (read p.0 -ℤ read v.0), read (read p.1 -ℤ read v.1)) (minus p v)
minus_read p v h k = λ i. (difference_read p.0 v.0 h.x k.x i, difference_read p.1 v.1 h.y k.y i)

-- of numbers that are smaller
pub close_sum : (a b : ℤ) → unsigned_abs a ≤ 2 ^ 40 → unsigned_abs b ≤ 2 ^ 40 → read (read a +ℤ read b) ≡ a +ℤ b
close_sum a b h k = sum_read a b (omega arith) (omega arith)

pub close_difference : (a b : ℤ) → unsigned_abs a ≤ 2 ^ 40 → unsigned_abs b ≤ 2 ^ 40 → read (read a -ℤ read b) ≡ a -ℤ b
close_difference a b h k = difference_read a b (omega arith) (omega arith)

-- ---- products

factors_small : (a b : ℤ) → unsigned_abs a ≤ 2 ^ 32 → unsigned_abs b ≤ 2 ^ 32 → unsigned_abs (a *ℤ b) ≤ 2 ^ 64
factors_small a b h k = product_size a b (2 ^ 32) (2 ^ 32) h k

pub factors_fit : (a b : ℤ) → unsigned_abs a ≤ 2 ^ 32 → unsigned_abs b ≤ 2 ^ 32 → SFits w128 (read a *ℤ read b)
factors_fit a b h k =
    rw (small_read a (omega arith), small_read b (omega arith))
    (fits_signed_from_abs w128 (a *ℤ b) (omega (arith, factors_small a b h k)))

factors_read : (a b : ℤ) → unsigned_abs a ≤ 2 ^ 32 → unsigned_abs b ≤ 2 ^ 32 → read (read a *ℤ read b) ≡ a *ℤ b
factors_read a b h k =
    rw (small_read a (omega arith), small_read b (omega arith))
    (small_read (a *ℤ b) (omega (arith, factors_small a b h k)))

-- with a factor of 32 bits
pub factor_fits : (a b : ℤ) → SFits w32 a → unsigned_abs b ≤ 2 ^ 64 →
    SFits w128 (to_z w128 (of_z w128 (to_z w32 (of_z w32 a))) *ℤ read b)
factor_fits a b f h =
    let s : unsigned_abs a ≤ 2 ^ 31 = omega (arith, ints, f) in
    rw (to_z-of_z w32 a f, small_read a (omega (arith, s)), small_read b (omega (arith, h)))
    (fits_signed_mul w128 a b (2 ^ 31) (2 ^ 64) s h (lit< tt))

module _ (v w : Point) (h : IsNarrow (2 ^ 32) v) (k : IsNarrow (2 ^ 32) w) where
  pub cross_fits : SFits w128 (read (read v.0 *ℤ read w.1) -ℤ read (read v.1 *ℤ read w.0))
  cross_fits =
      rw (factors_read v.0 w.1 h.x k.y, factors_read v.1 w.0 h.y k.x)
      (fits_signed_from_abs w128 (cross v w) (omega (arith, cross_small (2 ^ 32) (2 ^ 32) v w h k)))

  pub cross_read : read (read (read v.0 *ℤ read w.1) -ℤ read (read v.1 *ℤ read w.0)) ≡ cross v w
  cross_read =
      rw (factors_read v.0 w.1 h.x k.y, factors_read v.1 w.0 h.y k.x)
      (small_read (cross v w) (omega (arith, cross_small (2 ^ 32) (2 ^ 32) v w h k)))

  pub dot_fits : SFits w128 (read (read v.0 *ℤ read w.0) +ℤ read (read v.1 *ℤ read w.1))
  dot_fits =
      rw (factors_read v.0 w.0 h.x k.x, factors_read v.1 w.1 h.y k.y)
      (fits_signed_from_abs w128 (dot v w) (omega (arith, dot_small (2 ^ 32) (2 ^ 32) v w h k)))

  pub dot_read : read (read (read v.0 *ℤ read w.0) +ℤ read (read v.1 *ℤ read w.1)) ≡ dot v w
  dot_read =
      rw (factors_read v.0 w.0 h.x k.x, factors_read v.1 w.1 h.y k.y)
      (small_read (dot v w) (omega (arith, dot_small (2 ^ 32) (2 ^ 32) v w h k)))

-- ---- quotients

module _ (r a k d : ℤ) (e : r ≡ rounded_product (read a) (read k) (read d)) (h : unsigned_abs a ≤ 2 ^ 30)
    (l : unsigned_abs k ≤ 2 ^ 63) (m : unsigned_abs d ≤ 2 ^ 63) (some : d ≢ pos 0) where
  quotient_most : unsigned_abs (rounded_product a k d) ≤ 2 ^ 93
  quotient_most = product_small (2 ^ 30) (2 ^ 63) a k d (size_positive d some) h l

  pub quotient_read : read r ≡ rounded_product a k d
  quotient_read = rw (product_read r a k d e h l m) (small_read (rounded_product a k d) (omega (arith, quotient_most)))

  pub quotient_small : unsigned_abs (read r) ≤ 2 ^ 100
  quotient_small = rw quotient_read (omega (arith, quotient_most))

-- ---- coordinates

pub pair_read : (x y : ℤ) (p : Point) → IsWithin (2 ^ 31) x → IsWithin (2 ^ 31) y → ◌≡◌ {A = Point} (x, y) p →
    ◌≡◌ {A = Point} (read x, read y) p
pair_read x y p u w e =
    rw (small_read x (omega (arith, within_size (2 ^ 31) x u)), small_read y (omega (arith, within_size (2 ^ 31) y w)))
    e

pub pair_narrow : (x y : ℤ) → IsWithin (2 ^ 31) x → IsWithin (2 ^ 31) y → IsNarrow (2 ^ 31) (read x, read y)
pair_narrow x y u w = record {
  x = rw (small_read x (omega (arith, within_size (2 ^ 31) x u))) (within_size (2 ^ 31) x u);
  y = rw (small_read y (omega (arith, within_size (2 ^ 31) y w))) (within_size (2 ^ 31) y w);
}

-- a direction is no longer than the unit
pub short_narrow : (unit : ℕ) (n : Point) → unit ≤ 2 ^ 30 → IsShort unit n → IsNarrow (2 ^ 30) n
short_narrow unit n most short =
    let x : unsigned_abs n.0 ≤ unit = le_of_squares (unsigned_abs n.0) unit (omega (arith, short)) in
    let y : unsigned_abs n.1 ≤ unit = le_of_squares (unsigned_abs n.1) unit (omega (arith, short)) in
    record { x = omega arith; y = omega arith }

-- a safe coordinate
pub safe_read : (unit : ℕ) (z : ℤ) → unit ≤ 2 ^ 30 → IsSmall unit z → read z ≡ z
safe_read unit z most s = small_read z (omega (arith, ints, s.low, s.high, most))
