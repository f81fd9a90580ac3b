-- Lemmas over whole numbers: sums and products that fit 128 bits, and what is kept of them there.
use Rattle.std.proofs.Common.{◌≡◌, ℕ, ◌+◌, ◌*◌, ◌/◌, ◌^◌, ◌<◌, ◌≤◌, ◌⊎◌, true, false, sym, ◌∙◌, ap, refl, arith, zero, suc, lit≤, eqb}
use Rattle.std.specs.Int.{int_min, int_max}
use Rattle.std.specs.Prelude.{Bool, IsTrue, ◌↔◌, ℤ, pos, negsuc, ◌+ℤ◌, ◌-ℤ◌, ◌*ℤ◌, neg_ℤ, ◌≤ℤ◌, ◌<ℤ◌, unsigned_abs}
use Rattle.std.proofs.lemmas.Int.{ints, clamps, to_z-of_z, to_z_pos, unsigned_abs-mul, by_lt_z}
use Rattle.std.proofs.lemmas.Nat.{mul-lt}
use Rattle.std.proofs.lemmas.Bool.{true≢false, eqb-true, eq-eqb}
use Rattle.std.proofs.Math.Nat.{div-eq_of_lt, div-le_self}
use lib.Signed.{lt_z}
use mathlib.Core.Bool.{beq}
use mir.Syntax.{w32, w128}
use mir.Val.{to_z, of_z, SFits}
use Rattle.mesh_plane.specs.Bounds.{IsSmall}
use Rattle.mesh_plane.proofs.Sizes.{small_size}
use Rattle.mesh_plane.proofs.Whole.{linear}
use Rattle.mesh_lattice.specs.Split.{rounded_quotient, IsBetween}

-- a number that is at most another is below it or the same
pub below_or_last : (a b : ℕ) → a ≤ b → (a < b) ⊎ (a ≡ b)
below_or_last a b h = grind arith

pub small_fits : (h : ℕ) (z : ℤ) → h ≤ 2 ^ 127 → IsSmall h z → SFits w128 z
small_fits h z m s = omega (arith, ints, s.low, s.high)

-- what 128 bits keep of a small number
pub small_kept : (h : ℕ) (z : ℤ) → h ≤ 2 ^ 127 → IsSmall h z → to_z w128 (of_z w128 z) ≡ z
small_kept h z m s = to_z-of_z w128 z (small_fits h z m s)

pub small_of_size : (h : ℕ) (z : ℤ) → unsigned_abs z < h → IsSmall h z
small_of_size h z s = record { low = omega (arith, ints); high = omega (arith, ints) }

pub small_more : (h k : ℕ) (z : ℤ) → h ≤ k → IsSmall h z → IsSmall k z
small_more h k z m s = record { low = omega (arith, ints, s.low); high = omega (arith, ints, s.high) }

pub small_sum : (h k l : ℕ) (y z : ℤ) → h + k ≤ l → IsSmall h y → IsSmall k z → IsSmall l (y +ℤ z)
small_sum h k l y z m s t = record { low = omega (arith, ints, s.low, t.low); high = omega (arith, ints, s.high, t.high) }

pub small_difference : (h k l : ℕ) (y z : ℤ) → h + k ≤ l → IsSmall h y → IsSmall k z → IsSmall l (y -ℤ z)
small_difference h k l y z m s t = record { low = omega (arith, ints, s.low, t.high); high = omega (arith, ints, s.high, t.low) }

pub small_product : (h k l : ℕ) (y z : ℤ) → h * k ≤ l → IsSmall h y → IsSmall k z → IsSmall l (y *ℤ z)
small_product h k l y z m s t =
    let p : unsigned_abs y < h = small_size h y s in
    let q : unsigned_abs z < k = small_size k z t in
    let r : unsigned_abs y * unsigned_abs z < h * k = mul-lt (unsigned_abs y) (unsigned_abs z) h k p q in
    small_of_size l (y *ℤ z) (omega (arith, unsigned_abs-mul y z))

pub i32_small : (z : ℤ) → SFits w32 z → IsSmall (2 ^ 32) z
i32_small z f = record { low = omega (arith, ints); high = omega (arith, ints) }

-- a rounded quotient by the sizes of its two numbers, with its sign
sign_of : (n : ℕ) → lt_z (pos n) (pos 0) ≡ false
sign_of n = grind (arith, ints)

pub quotient_other_sign : (n d : ℤ) → beq (lt_z n (pos 0)) (lt_z d (pos 0)) ≡ false → neg_ℤ (pos ((2 * unsigned_abs n + unsigned_abs d) / (2 * unsigned_abs d))) ≡ rounded_quotient n d
quotient_other_sign (pos n) (pos d) h = absurd (true≢false (sym (λ i. beq (sign_of n i) (sign_of d i)) ∙ h))
quotient_other_sign (negsuc n) (negsuc d) h = absurd (true≢false h)
quotient_other_sign (pos zero) (negsuc d) h = neg_zero ((2 * 0 + suc d) / (2 * suc d)) (div-eq_of_lt (omega arith))
  where
    neg_zero : (m : ℕ) → m ≡ 0 → neg_ℤ (pos m) ≡ pos m
    neg_zero m e = omega (arith, ints)
quotient_other_sign (pos (suc n)) (negsuc d) h = refl
quotient_other_sign (negsuc n) (pos d) h = refl

-- a coordinate between two of 32 bits has 32 bits
pub between_fits : (a z b : ℤ) → SFits w32 a → SFits w32 b → IsBetween a z b → SFits w32 z
between_fits a z b f g h =
    by_lt_z b a
    (λ (o : b <ℤ a). let k = h.down (omega (arith, linear)) in omega (arith, ints, k.0, k.1))
    (λ (o : a ≤ℤ b). let k = h.up o in omega (arith, ints, k.0, k.1))

pub small_quotient : (n d : ℕ) → n < 2 ^ 100 → d < 2 ^ 100 → 0 < d → (2 * n + d) / (2 * d) < 2 ^ 102
small_quotient n d h k l =
    let p : (2 * n + d) / (2 * d) ≤ 2 * n + d = div-le_self (2 * n + d) (2 * d) in
    omega arith

-- the quotient of two numbers of different sign, as 128 bits hold it
pub quotient_below : (n d : ℤ) (s : ℕ) → IsSmall (2 ^ 100) n → IsSmall (2 ^ 100) d → 0 < unsigned_abs d
    → s ≡ (2 * unsigned_abs n + unsigned_abs d) / (2 * unsigned_abs d) → beq (lt_z n (pos 0)) (lt_z d (pos 0)) ≡ false
    → to_z w128 (of_z w128 (pos 0 -ℤ to_z w128 s)) ≡ rounded_quotient n d
quotient_below n d s small_n small_d nonzero e other =
    let p : (2 * unsigned_abs n + unsigned_abs d) / (2 * unsigned_abs d) < 2 ^ 102 =
    small_quotient (unsigned_abs n) (unsigned_abs d) (small_size (2 ^ 100) n small_n) (small_size (2 ^ 100) d small_d) nonzero in
    let q : s < 2 ^ 102 = omega arith in
    let r : to_z w128 s ≡ pos s = to_z_pos w128 s (omega arith) in
    let t : IsSmall (2 ^ 103) (pos 0 -ℤ to_z w128 s) = record { low = omega (arith, ints); high = omega (arith, ints) } in
    small_kept (2 ^ 103) (pos 0 -ℤ to_z w128 s) (lit≤ tt) t
    ∙ ap (λ (z : ℤ). pos 0 -ℤ z) r ∙ omega (arith, ints) ∙ ap (λ (m : ℕ). neg_ℤ (pos m)) e ∙ quotient_other_sign n d other

-- the test of 0 on the bits of a number
pub zero_bits : (z : ℤ) → SFits w128 z → (eqb (of_z w128 z) 0 ≡ true → z ≡ pos 0) × (z ≡ pos 0 → eqb (of_z w128 z) 0 ≡ true)
zero_bits z f = ((λ h. let e = eqb-true (of_z w128 z) 0 h in omega (arith, ints)), λ h. eq-eqb (of_z w128 z) 0 (omega (arith, ints)))

-- ---- ranges

from_test : (x y : ℤ) → lt_z x y ≡ true → x <ℤ y
from_test x y e = grind (arith, ints)

from_no_test : (x y : ℤ) → lt_z x y ≡ false → y ≤ℤ x
from_no_test x y e = grind (arith, ints)

between_most : (a z b : ℤ) → IsBetween a z b → z ≤ℤ int_max a b
between_most a z b h =
    by_lt_z a b (λ (l : a <ℤ b). omega (arith, ints, clamps, (h.up (omega (arith, ints))).1)) (λ (l : b ≤ℤ a). omega (arith, ints, clamps, (h.down l).1))

between_least : (a z b : ℤ) → IsBetween a z b → int_min a b ≤ℤ z
between_least a z b h =
    by_lt_z a b (λ (l : a <ℤ b). omega (arith, ints, clamps, (h.up (omega (arith, ints))).0)) (λ (l : b ≤ℤ a). omega (arith, ints, clamps, (h.down l).0))

-- ranges of which one ends below the other have no number in common
pub below_apart : (a b p r z : ℤ) → lt_z (int_max a b) (int_min p r) ≡ true → IsBetween a z b → IsBetween p z r → ⊥
below_apart a b p r z h x y = omega (arith, ints, from_test (int_max a b) (int_min p r) h, between_most a z b x, between_least p z r y)

-- between the lesser and the greater of two numbers
pub between_down : (t : Bool) (a z b : ℤ) → lt_z b a ≡ true → (IsTrue t ↔ ((b ≤ℤ z) × (z ≤ℤ a))) → (IsTrue t ↔ IsBetween a z b)
between_down t a z b h e =
    let l : b <ℤ a = from_test b a h in (
      (λ i. record { up = λ u. absurd (omega (arith, ints)); down = λ _. e.0 i }),
      (λ (i : IsBetween a z b). e.1 (i.down (omega (arith, ints)))),
    )

pub between_up : (t : Bool) (a z b : ℤ) → lt_z b a ≡ false → (IsTrue t ↔ ((a ≤ℤ z) × (z ≤ℤ b))) → (IsTrue t ↔ IsBetween a z b)
between_up t a z b h e =
    let l : a ≤ℤ b = from_no_test b a h in (
      (λ i. record { up = λ _. e.0 i; down = λ d. one (e.0 i) d }),
      (λ (i : IsBetween a z b). e.1 (i.up l)),
    )
  where
    one : (a ≤ℤ z) × (z ≤ℤ b) → b ≤ℤ a → (b ≤ℤ z) × (z ≤ℤ a)
    one r d = (omega (arith, ints, r.0, r.1), omega (arith, ints, r.0, r.1))
