-- Lemmas over whole numbers: numbers that have the signs of others.
use Rattle.std.proofs.Common.{◌≡◌, ◌≤◌, ◌∙◌, ap, arith}
use Rattle.std.specs.Prelude.{ℤ, pos, ◌*ℤ◌, ◌≤ℤ◌, neg_ℤ, unsigned_abs}
use Rattle.std.proofs.lemmas.Int.{ints, by_lt_z}
use Rattle.mesh_plane.specs.Signs.{HasSignOf}
use Rattle.mesh_plane.proofs.Whole.{linear, neg_mul, mul_nonneg, mul_nonpos, mul_nonpos_nonneg, nonneg_of_mul, mul_neg_pos, zero_mul}

pub sign_self : (x : ℤ) → HasSignOf x x
sign_self x = record { nonneg = λ h. h; nonpos = λ h. h }

pub sign_through : {x y z : ℤ} → HasSignOf x y → HasSignOf y z → HasSignOf x z
sign_through p q = record { nonneg = λ h. q.nonneg (p.nonneg h); nonpos = λ h. q.nonpos (p.nonpos h) }

pub sign_neg : {x k : ℤ} → HasSignOf x k → HasSignOf (neg_ℤ x) (neg_ℤ k)
sign_neg {x} {k} p =
    record {
      nonneg = λ h. let l : k ≤ℤ pos 0 = p.nonpos (omega (arith, linear)) in omega (arith, linear);
      nonpos = λ h. let l : pos 0 ≤ℤ k = p.nonneg (omega (arith, linear)) in omega (arith, linear);
    }

-- the product of a number and one with its sign is not negative
pub sign_square : {x k : ℤ} → HasSignOf x k → pos 0 ≤ℤ (x *ℤ k)
sign_square {x} {k} p =
    by_lt_z x (pos 0)
    (λ h. let l : x ≤ℤ pos 0 = omega (arith, linear) in mul_nonpos x k l (p.nonpos l))
    (λ h. mul_nonneg x k h (p.nonneg h))

product_nonneg : (x k y l : ℤ) → HasSignOf x k → HasSignOf y l → pos 0 ≤ℤ (x *ℤ y) → pos 0 ≤ℤ (k *ℤ l)
product_nonneg x k y l p q h =
    by_lt_z x (pos 0)
    (λ a.
    let a' : x ≤ℤ pos 0 = omega (arith, linear) in
    by_lt_z (pos 0) y
    (λ b. absurd (omega (arith, linear, mul_neg_pos x y a b)))
    (λ b. mul_nonpos k l (p.nonpos a') (q.nonpos b)))
    (λ a.
    by_lt_z (pos 0) x
    (λ c. mul_nonneg k l (p.nonneg a) (q.nonneg (nonneg_of_mul x y c h)))
    (λ c.
    let z : k ≡ pos 0 = omega (arith, linear, p.nonneg a, p.nonpos c) in
    let e : k *ℤ l ≡ pos 0 = ap (λ (n : ℤ). n *ℤ l) z ∙ zero_mul l in
    omega (arith, linear)))

pub sign_product : {x k y l : ℤ} → HasSignOf x k → HasSignOf y l → HasSignOf (x *ℤ y) (k *ℤ l)
sign_product {x} {k} {y} {l} p q =
    record {
      nonneg = product_nonneg x k y l p q;
      nonpos = λ h.
          let a : pos 0 ≤ℤ (neg_ℤ x *ℤ y) = omega (arith, linear, neg_mul x y) in
          let b : pos 0 ≤ℤ (neg_ℤ k *ℤ l) = product_nonneg (neg_ℤ x) (neg_ℤ k) y l (sign_neg p) q a in
          omega (arith, linear, neg_mul k l);
    }

-- a factor that is not negative keeps the sign
pub sign_times : (x c : ℤ) → pos 0 ≤ℤ c → HasSignOf x (x *ℤ c)
sign_times x c h = record { nonneg = λ l. mul_nonneg x c l h; nonpos = λ l. mul_nonpos_nonneg x c l h }

-- one sign and one size make one number
pub same_number : {x k j : ℤ} → HasSignOf x k → HasSignOf x j → unsigned_abs k ≡ unsigned_abs j → k ≡ j
same_number {x} {k} {j} p q e =
    by_lt_z x (pos 0)
    (λ h. let l : x ≤ℤ pos 0 = omega (arith, linear) in omega (arith, ints, p.nonpos l, q.nonpos l))
    (λ h. omega (arith, ints, p.nonneg h, q.nonneg h))

-- numbers with the signs of others, and with their sizes in the order of theirs, stand in their order
pub order_kept : (x u y v : ℤ) → HasSignOf x u → HasSignOf y v → (unsigned_abs y ≤ unsigned_abs x → unsigned_abs v ≤ unsigned_abs u) → (unsigned_abs x ≤ unsigned_abs y → unsigned_abs u ≤ unsigned_abs v) → y ≤ℤ x → v ≤ℤ u
order_kept x u y v p q f g h =
    by_lt_z y (pos 0)
    (λ a.
    let b : y ≤ℤ pos 0 = omega (arith, linear) in
    let c : v ≤ℤ pos 0 = q.nonpos b in
    by_lt_z x (pos 0)
    (λ d.
    let e : x ≤ℤ pos 0 = omega (arith, linear) in
    let k : u ≤ℤ pos 0 = p.nonpos e in
    let s : unsigned_abs x ≤ unsigned_abs y = omega (arith, ints) in
    let t : unsigned_abs u ≤ unsigned_abs v = g s in
    omega (arith, ints))
    (λ d. let k : pos 0 ≤ℤ u = p.nonneg d in omega (arith, linear)))
    (λ a.
    let b : pos 0 ≤ℤ x = omega (arith, linear) in
    let c : pos 0 ≤ℤ v = q.nonneg a in
    let k : pos 0 ≤ℤ u = p.nonneg b in
    let s : unsigned_abs y ≤ unsigned_abs x = omega (arith, ints) in
    let t : unsigned_abs v ≤ unsigned_abs u = f s in
    omega (arith, ints))
