-- Lemmas over points: how long rounding may make a vector.
use Rattle.std.proofs.Common.{ℕ, ◌+◌, ◌*◌, ◌<◌, ◌≤◌, ⊎_elim, arith}
use Rattle.std.specs.Prelude.{ℤ, ◌*ℤ◌, unsigned_abs}
use Rattle.std.proofs.Math.Nat.{mul-le-mul, mul-le-mul_right, le_of_mul-le-mul_left}
use Rattle.std.proofs.lemmas.Bool.{cases_lt}
use Rattle.std.proofs.lemmas.Int.{unsigned_abs-mul}
use Rattle.std.proofs.lemmas.Nat.{mul-lt}
use Rattle.mesh_plane.specs.Plane.{Point, length_sq}
use Rattle.mesh_plane.specs.Rounding.{rounded}
use Rattle.mesh_plane.proofs.Rounding.{rounded_not_above}
use Rattle.mesh_plane.proofs.Sizes.{two_products}
use Rattle.mesh_num.specs.Direction.{IsShort, scaled_direction}
use Rattle.mesh_num.specs.Rotation.{turned, turned_along}
use Rattle.mesh_num.proofs.Rotations.{whole_length}
use Rattle.mesh_reach.specs.Joins.{rounded_reach}

-- two sides of a right angle are together at most one and a half times as long as what is across
short_sum : (c d n : ℕ) → c * c + d * d ≤ n * n → 2 * (c + d) ≤ 3 * n
short_sum c d n h =
    ⊎_elim
    (λ (far : 3 * n < 2 * (c + d)). absurd (omega
    (arith, mul-lt (3 * n) (3 * n) (2 * (c + d)) (2 * (c + d)) far far, two_products c d, h)))
    (λ (l : 2 * (c + d) ≤ 3 * n). l)
    (cases_lt (3 * n) (2 * (c + d)))

squared : (a c d : ℕ) → 2 * (a * d) ≤ 2 * c + d → 4 * (d * d) * (a * a) ≤ 4 * (c * c) + 4 * (c * d) + d * d
squared a c d h = omega (arith, mul-le-mul h h)

rounded_parts : (d n a b c e : ℕ) → 0 < d → c * c + e * e ≤ d * d * (n * n) → 2 * (a * d) ≤ 2 * c + d →
    2 * (b * d) ≤ 2 * e + d →
    2 * (a * a + b * b) ≤ rounded_reach n
rounded_parts d n a b c e some h p q =
    let sum : 2 * (c + e) ≤ 3 * (d * n) = short_sum c e (d * n) (omega (arith, h)) in
    let wide : 2 * (c + e) * d ≤ 3 * (d * n) * d = mul-le-mul_right d sum in
    let all : 2 * (d * d) * (2 * (a * a + b * b)) ≤ 2 * (d * d) * (2 * (n * n) + 3 * n + 1) =
    omega (arith, squared a c d p, squared b e d q, wide, h) in
    let size : 0 * 0 < d * d = mul-lt 0 0 d d some some in
    le_of_mul-le-mul_left all (omega arith)

-- a vector of at most `n` times `d` is at most `n` and the root of a half long once its parts are divided by `d`
pub rounded_length : (d n : ℕ) (v : Point) → 0 < d → length_sq v ≤ d * d * (n * n) →
    2 * length_sq (rounded v.0 d, rounded v.1 d) ≤ rounded_reach n
rounded_length d n v some h =
    rounded_parts d n (unsigned_abs (rounded v.0 d)) (unsigned_abs (rounded v.1 d)) (unsigned_abs v.0)
    (unsigned_abs v.1) some h
    (rounded_not_above v.0 d) (rounded_not_above v.1 d)

-- so is a direction times a radius
pub scaled_length : (unit : ℕ) (r : ℤ) (n : Point) → 0 < unit → IsShort unit n →
    2 * length_sq (scaled_direction unit r n) ≤ rounded_reach (unsigned_abs r)
scaled_length unit r n some short = rounded_length unit (unsigned_abs r) (n.0 *ℤ r, n.1 *ℤ r) some size
  where
    size : length_sq (n.0 *ℤ r, n.1 *ℤ r) ≤ unit * unit * (unsigned_abs r * unsigned_abs r)
    size =
        rw (unsigned_abs-mul n.0 r, unsigned_abs-mul n.1 r)
        (omega (arith, mul-le-mul_right (unsigned_abs r * unsigned_abs r) short))

-- and a vector that is turned along a direction
pub turned_length : (unit most : ℕ) (n v : Point) → 0 < unit → IsShort unit n → length_sq v ≤ most * most →
    2 * length_sq (turned_along unit n v) ≤ rounded_reach most
turned_length unit most n v some short h =
    let size : length_sq (n.1, n.0) * length_sq v ≤ unit * unit * (most * most) = mul-le-mul (omega (arith, short)) h in
    rounded_length unit most (turned (n.1, n.0) v) some (omega (arith, size, whole_length (n.1, n.0) v))

-- a greater radius has no smaller reach
pub rounded_reach_more : (a b : ℕ) → a ≤ b → rounded_reach a ≤ rounded_reach b
rounded_reach_more a b h = omega (arith, mul-le-mul h h)
