-- Lemmas over whole numbers: the size of a rounded quotient of a product.
use Rattle.std.proofs.Common.{◌≡◌, ℕ, ◌*◌, ◌<◌, ◌≤◌, ◌^◌, zero, suc, arith}
use Rattle.std.specs.Prelude.{ℤ, pos, negsuc, ◌*ℤ◌, neg_ℤ, unsigned_abs}
use Rattle.std.proofs.Math.Nat.{mul-le-mul, mul-le-mul_left}
use Rattle.std.proofs.lemmas.Int.{ints, unsigned_abs-mul, to_z-of_z}
use mir.Syntax.{w128}
use mir.Val.{to_z, of_z}
use Rattle.mesh_plane.specs.Rounding.{rounded}
use Rattle.mesh_plane.proofs.Rounding.{rounded_within}
use Rattle.mesh_plane.proofs.Sizes.{size_neg, product_size}
use Rattle.mesh_plane.specs.Plane.{Point, cross, dot}
use Rattle.mesh_num.specs.Quotient.{rounded_product}
use Rattle.mesh_join.specs.Private.Miters.{IsNarrow}

-- rounding makes no size greater
rounded_small : (a : ℤ) (d : ℕ) → 0 < d → unsigned_abs (rounded a d) ≤ unsigned_abs a
rounded_small a d h =
    let l : unsigned_abs a * 1 ≤ unsigned_abs a * d = mul-le-mul_left (unsigned_abs a) h in
    rounded_within a d (unsigned_abs a) h (omega arith)

-- the quotient of a product is at most as great as the product of the factors' bounds
pub product_small : (m n : ℕ) (a b d : ℤ) → 0 < unsigned_abs d → unsigned_abs a ≤ m → unsigned_abs b ≤ n → unsigned_abs (rounded_product a b d) ≤ m * n
product_small m n a b (pos zero) h k l = absurd (omega arith)
product_small m n a b (pos (suc d)) h k l =
    let p : unsigned_abs a * unsigned_abs b ≤ m * n = mul-le-mul k l in
    omega (arith, rounded_small (a *ℤ b) (suc d) (omega arith), unsigned_abs-mul a b)
product_small m n a b (negsuc d) h k l =
    let p : unsigned_abs a * unsigned_abs b ≤ m * n = mul-le-mul k l in
    omega (arith, rounded_small (neg_ℤ (a *ℤ b)) (suc d) (omega arith), size_neg (a *ℤ b), unsigned_abs-mul a b)

-- products of vectors
pub cross_small : (m n : ℕ) (v w : Point) → IsNarrow m v → IsNarrow n w → unsigned_abs (cross v w) ≤ 2 * (m * n)
cross_small m n v w h l = let a = product_size v.0 w.1 m n h.x l.y in let b = product_size v.1 w.0 m n h.y l.x in omega (arith, ints)

pub dot_small : (m n : ℕ) (v w : Point) → IsNarrow m v → IsNarrow n w → unsigned_abs (dot v w) ≤ 2 * (m * n)
dot_small m n v w h l = let a = product_size v.0 w.0 m n h.x l.x in let b = product_size v.1 w.1 m n h.y l.y in omega (arith, ints)

-- reading a quotient of 128 bits
pub product_read : (r a b d : ℤ) → r ≡ rounded_product (to_z w128 (of_z w128 a)) (to_z w128 (of_z w128 b)) (to_z w128 (of_z w128 d)) → unsigned_abs a ≤ 2 ^ 30 →
    unsigned_abs b ≤ 2 ^ 63 → unsigned_abs d ≤ 2 ^ 63 → r ≡ rounded_product a b d
product_read r a b d e h k l = simp (to_z-of_z w128 a (omega (arith, ints)), to_z-of_z w128 b (omega (arith, ints)), to_z-of_z w128 d (omega (arith, ints))) at e
