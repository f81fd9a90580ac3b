-- Lemmas over points: turned vectors are no longer than before.
use Rattle.std.proofs.Common.{◌≡◌, ℕ, ◌*◌, ◌/◌, ◌^◌, ◌<◌, ◌≤◌, refl, sym, ◌∙◌, ap, arith, lit<}
use Rattle.std.specs.Prelude.{ℤ, pos, negsuc, suc, ◌+ℤ◌, ◌-ℤ◌, ◌*ℤ◌, unsigned_abs}
use Rattle.std.proofs.Math.Nat.{mul-le-mul, mul-le-mul_right, div-mul-le_self, le_of_mul-le-mul_right}
use Rattle.std.proofs.lemmas.Int.{ints}
use Rattle.mesh_plane.specs.Plane.{Point, length_sq, dot}
use Rattle.mesh_plane.proofs.Identities.{rotation_length}
use Rattle.mesh_plane.proofs.Sizes.{size_neg, dot_self, le_of_squares}
use Rattle.mesh_sine.specs.Sine.{IsWithinOne}
use Rattle.mesh_num.specs.Direction.{IsShort}
use Rattle.mesh_num.specs.Rotation.{cut, turned, rotated, turned_along, turned_round, IsWithinLength}
use Rattle.mesh_plane.proofs.Rounding.{rounded_within}

pub cut_size : (a : ℤ) → unsigned_abs (cut a) ≡ unsigned_abs a / 2 ^ 30
cut_size (pos a) = refl
cut_size (negsuc a) = size_neg (pos (suc a / 2 ^ 30))

-- a component of at most 2 ^ 30 times a sine of at most 2 ^ 30 is cut to no more than it was
cut_square : (a : ℤ) → unsigned_abs (cut a) * unsigned_abs (cut a) * 2 ^ 60 ≤ unsigned_abs a * unsigned_abs a
cut_square a =
    let q = unsigned_abs a / 2 ^ 30 in
    let h : q * 2 ^ 30 ≤ unsigned_abs a = div-mul-le_self (unsigned_abs a) (2 ^ 30) in
    let s : (q * 2 ^ 30) * (q * 2 ^ 30) ≤ unsigned_abs a * unsigned_abs a = mul-le-mul h h in
    rw (cut_size a) (omega arith)

-- the squared length before the components are cut
pub whole_length : (s v : Point) → length_sq ((s.1 *ℤ v.0) -ℤ (s.0 *ℤ v.1), (s.0 *ℤ v.0) +ℤ (s.1 *ℤ v.1)) ≡ length_sq s * length_sq v
whole_length s v =
    let w : Point = ((s.1 *ℤ v.0) -ℤ (s.0 *ℤ v.1), (s.0 *ℤ v.0) +ℤ (s.1 *ℤ v.1)) in
    let a : pos (length_sq w) ≡ dot w w = sym (dot_self w) in
    let b : dot w w ≡ ((s.1 *ℤ s.1) +ℤ (s.0 *ℤ s.0)) *ℤ ((v.0 *ℤ v.0) +ℤ (v.1 *ℤ v.1)) = rotation_length s.1 s.0 v.0 v.1 in
    let c : (s.1 *ℤ s.1) +ℤ (s.0 *ℤ s.0) ≡ pos (length_sq s) = omega (arith, ints, dot_self s) in
    let d : dot v v ≡ pos (length_sq v) = dot_self v in
    let e : pos (length_sq w) ≡ pos (length_sq s) *ℤ pos (length_sq v) = a ∙ b ∙ (rw c (ap (λ (z : ℤ). pos (length_sq s) *ℤ z) d)) in
    omega (arith, ints, e)

-- turned by a sine and a cosine that are together at most 2 ^ 30 long, a vector is no longer than before
pub rotated_length : (s v : Point) → IsWithinOne s → length_sq (rotated s v) ≤ length_sq v
rotated_length s v h =
    let a = (s.1 *ℤ v.0) -ℤ (s.0 *ℤ v.1) in
    let b = (s.0 *ℤ v.0) +ℤ (s.1 *ℤ v.1) in
    let w : length_sq (rotated s v) * 2 ^ 60 ≤ length_sq s * length_sq v = omega (arith, cut_square a, cut_square b, whole_length s v) in
    let m : length_sq s * length_sq v ≤ 2 ^ 60 * length_sq v = mul-le-mul_right (length_sq v) h in
    le_of_mul-le-mul_right {k = 2 ^ 60} (omega arith) (lit< tt)

-- the opposite angle's sine and cosine are as long
pub turned_round_length : (s : Point) → length_sq (turned_round s) ≡ length_sq s
turned_round_length s = rw (size_neg s.0) refl

-- a point turned with the axis x to a direction passes its own length in no coordinate
pub turned_along_within : (unit : ℕ) (n v : Point) → 0 < unit → IsShort unit n → IsWithinLength v (turned_along unit n v)
turned_along_within unit n v h short reach r =
    let w = turned (n.1, n.0) v in
    let a : length_sq (n.1, n.0) * length_sq v ≤ (unit * unit) * (reach * reach) = mul-le-mul (omega (arith, short)) r in
    let b : unsigned_abs w.0 * unsigned_abs w.0 ≤ (reach * unit) * (reach * unit) = omega (arith, a, whole_length (n.1, n.0) v) in
    let c : unsigned_abs w.1 * unsigned_abs w.1 ≤ (reach * unit) * (reach * unit) = omega (arith, a, whole_length (n.1, n.0) v) in
    (rounded_within w.0 unit reach h (le_of_squares (unsigned_abs w.0) (reach * unit) b), rounded_within w.1 unit reach h (le_of_squares (unsigned_abs w.1) (reach * unit) c))

-- before the rounding, a point of at most `2 * unit` in each coordinate
pub turned_bounded : (unit : ℕ) (n v : Point) → IsShort unit n → unsigned_abs v.0 ≤ 2 * unit → unsigned_abs v.1 ≤ 2 * unit →
    (unsigned_abs (turned (n.1, n.0) v).0 ≤ 4 * unit * unit) × (unsigned_abs (turned (n.1, n.0) v).1 ≤ 4 * unit * unit)
turned_bounded unit n v short x y =
    let w = turned (n.1, n.0) v in
    let p : unsigned_abs v.0 * unsigned_abs v.0 ≤ (2 * unit) * (2 * unit) = mul-le-mul x x in
    let q : unsigned_abs v.1 * unsigned_abs v.1 ≤ (2 * unit) * (2 * unit) = mul-le-mul y y in
    let r : length_sq v ≤ (4 * unit) * (4 * unit) = omega (arith, p, q) in
    let a : length_sq (n.1, n.0) * length_sq v ≤ (unit * unit) * ((4 * unit) * (4 * unit)) = mul-le-mul (omega (arith, short)) r in
    let b : unsigned_abs w.0 * unsigned_abs w.0 ≤ (4 * unit * unit) * (4 * unit * unit) = omega (arith, a, whole_length (n.1, n.0) v) in
    let c : unsigned_abs w.1 * unsigned_abs w.1 ≤ (4 * unit * unit) * (4 * unit * unit) = omega (arith, a, whole_length (n.1, n.0) v) in
    (le_of_squares (unsigned_abs w.0) (4 * unit * unit) b, le_of_squares (unsigned_abs w.1) (4 * unit * unit) c)
