-- Lemmas over whole numbers: sizes of products of coordinate differences.
use Rattle.std.proofs.Common.{◌≡◌, ℕ, ◌+◌, ◌*◌, ◌^◌, ◌<◌, ◌≤◌, arith}
use Rattle.std.specs.Prelude.{ℤ, pos, neg_ℤ, ◌+ℤ◌, ◌-ℤ◌, ◌*ℤ◌, unsigned_abs, FitsSigned}
use Rattle.std.proofs.lemmas.Int.{ints, unsigned_abs-mul, fits_signed_from_abs}
use Rattle.std.proofs.lemmas.Nat.{mul-lt}
use Rattle.std.proofs.Math.Nat.{mul-le-mul, mul-le-mul_left}
use mir.Syntax.{w128}
use Rattle.mesh_plane.specs.Bounds.{IsWithin, IsSmall, IsSafe}
use Rattle.mesh_plane.specs.Plane.{Point, length_sq}
use Rattle.mesh_plane.specs.Rounding.{rounded}
use Rattle.mesh_plane.proofs.Rounding.{rounded_within}
use Rattle.mesh_plane.proofs.Sizes.{small_size}
use Rattle.mesh_num.specs.Direction.{IsShort}
use Rattle.mesh_num.proofs.Scaling.{short_bounded}

pub within_of_size : (h : ℕ) (z : ℤ) → unsigned_abs z < h → IsWithin h z
within_of_size h z s = record { low = omega (arith, ints); high = omega (arith, ints) }

-- the product of two differences of coordinates stays below half of what the wide type holds
pub small_product_size : (u : ℕ) (a b : ℤ) → IsSmall (2 * u) a → IsSmall (2 * u) b → unsigned_abs (a *ℤ b) < 4 * u * u
small_product_size u a b s t =
    let x : unsigned_abs a < 2 * u = small_size (2 * u) a s in
    let y : unsigned_abs b < 2 * u = small_size (2 * u) b t in
    omega (arith, unsigned_abs-mul a b, mul-lt (unsigned_abs a) (unsigned_abs b) (2 * u) (2 * u) x y)

pub product_within : (h u : ℕ) (a b : ℤ) → h ≡ 8 * u * u → IsSmall (2 * u) a → IsSmall (2 * u) b → IsWithin h (a *ℤ b)
product_within h u a b e s t =
    let x : unsigned_abs (a *ℤ b) < 4 * u * u = small_product_size u a b s t in
    within_of_size h (a *ℤ b) (omega arith)

pub difference_within : (h u : ℕ) (a b c d p q : ℤ) → h ≡ 8 * u * u → p ≡ a *ℤ b → q ≡ c *ℤ d →
    IsSmall (2 * u) a → IsSmall (2 * u) b → IsSmall (2 * u) c → IsSmall (2 * u) d → IsWithin h (p -ℤ q)
difference_within h u a b c d p q e f g s t v w =
    let x : unsigned_abs p < 4 * u * u = rw f (small_product_size u a b s t) in
    let y : unsigned_abs q < 4 * u * u = rw g (small_product_size u c d v w) in
    within_of_size h (p -ℤ q) (omega (arith, ints))

pub sum_within : (h u : ℕ) (a b c d p q : ℤ) → h ≡ 8 * u * u → p ≡ a *ℤ b → q ≡ c *ℤ d →
    IsSmall (2 * u) a → IsSmall (2 * u) b → IsSmall (2 * u) c → IsSmall (2 * u) d → IsWithin h (p +ℤ q)
sum_within h u a b c d p q e f g s t v w =
    let x : unsigned_abs p < 4 * u * u = rw f (small_product_size u a b s t) in
    let y : unsigned_abs q < 4 * u * u = rw g (small_product_size u c d v w) in
    within_of_size h (p +ℤ q) (omega (arith, ints))

pub square_sum_below : (u : ℕ) (v : Point) → IsSafe (2 * u) v → length_sq v < 8 * u * u
square_sum_below u v s =
    let x : unsigned_abs v.0 < 2 * u = small_size (2 * u) v.0 s.x in
    let y : unsigned_abs v.1 < 2 * u = small_size (2 * u) v.1 s.y in
    omega (arith, mul-lt (unsigned_abs v.0) (unsigned_abs v.0) (2 * u) (2 * u) x x, mul-lt (unsigned_abs v.1) (unsigned_abs v.1) (2 * u) (2 * u) y y)

pub square_sum_fits : (r l u : ℕ) (x y a b : ℤ) → r ≡ length_sq (a, b) → a ≡ x → b ≡ y → IsSafe (2 * u) (x, y) → l ≡ 16 * u * u → r < l
square_sum_fits r l u x y a b e f g s k =
    let p : length_sq (a, b) < 8 * u * u = rw (f, g) (square_sum_below u (x, y) s) in
    omega arith

-- what is no greater in size than a coordinate fits the wide type
pub within_of_coordinate : (half u : ℕ) (z r : ℤ) → half ≡ 8 * u * u → 1 ≤ u → IsWithin (2 * u) r → unsigned_abs z ≤ unsigned_abs r → IsWithin half z
within_of_coordinate half u z r e l h b =
    let s : u ≤ u * u = omega (arith, mul-le-mul_left u l) in
    let size : unsigned_abs r ≤ 2 * u = omega (arith, ints, h.low, h.high) in
    within_of_size half z (omega arith)

-- a coordinate is turned round in 128 bits
pub opposite_fits : (z : ℤ) → IsWithin (2 ^ 31) z → FitsSigned w128 (neg_ℤ z)
opposite_fits z w = fits_signed_from_abs w128 (neg_ℤ z) (omega (arith, ints, w.low, w.high))

-- the difference of two coordinates fits the wide type
pub coordinates_differ : (half u : ℕ) (a b p q : ℤ) → half ≡ 8 * u * u → 2 ^ 14 ≤ u → a ≡ p → b ≡ q
    → IsWithin (2 * u) p → IsWithin (2 * u) q → IsWithin half (a -ℤ b)
coordinates_differ half u a b p q e l f g v w =
    let s : u ≤ u * u = omega (arith, mul-le-mul_left u l) in
    let x : unsigned_abs (p -ℤ q) ≤ 4 * u = omega (arith, ints, v.low, v.high, w.low, w.high) in
    rw (f, g) (within_of_size half (p -ℤ q) (omega arith))

-- a number of at most `4 * u * u` over `u`, rounded, fits the wide type, as the number fits 128 bits
pub over_unit_within : (half u : ℕ) (z r : ℤ) → half ≡ 8 * u * u → 2 ^ 14 ≤ u → unsigned_abs z ≤ 4 * u * u → r ≡ rounded z u → IsWithin half r
over_unit_within half u z r e l h f =
    let b : unsigned_abs (rounded z u) ≤ 4 * u = rounded_within z u (4 * u) (omega arith) (omega arith) in
    let s : u ≤ u * u = omega (arith, mul-le-mul_left u l) in
    rw f (within_of_size half (rounded z u) (omega arith))

pub over_unit_small : (u s : ℕ) → u ≤ 2 ^ 30 → s ≤ 4 * u * u → s ≤ 2 ^ 126
over_unit_small u s l h = let p : u * u ≤ 2 ^ 30 * 2 ^ 30 = mul-le-mul l l in omega arith

pub short_within : (u : ℕ) (n : Point) → 2 ^ 14 ≤ u → IsShort u n → IsWithin (2 * u) n.0 × IsWithin (2 * u) n.1
short_within u n l h =
    let b : (unsigned_abs n.0 ≤ u) × (unsigned_abs n.1 ≤ u) = short_bounded u n h in
    (within_of_size (2 * u) n.0 (omega arith), within_of_size (2 * u) n.1 (omega arith))

pub size_of_coordinate_within : (half u : ℕ) (z r : ℤ) → half ≡ 8 * u * u → 2 ^ 14 ≤ u → IsWithin (2 * u) z → r ≡ pos (unsigned_abs z) → IsWithin half r
size_of_coordinate_within half u z r e l w f =
    let size : unsigned_abs r ≤ unsigned_abs z = rw f (omega (arith, ints)) in
    within_of_coordinate half u r z e (omega arith) w size

-- a sum is not below its parts
pub left_within : (s a b : ℕ) → s ≡ a + b → a ≤ s
left_within s a b e = omega arith

pub right_within : (s a b : ℕ) → s ≡ a + b → b ≤ s
right_within s a b e = omega arith

pub squares_fit : (a b : ℕ) → a < 2 ^ 31 → b < 2 ^ 31 → a * a + b * b < 2 ^ 63
squares_fit a b h l = omega (arith, mul-lt a a (2 ^ 31) (2 ^ 31) h h, mul-lt b b (2 ^ 31) (2 ^ 31) l l)
