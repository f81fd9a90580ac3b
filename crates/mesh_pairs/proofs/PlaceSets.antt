-- Lemmas over sets of places, which are numbers.
use Rattle.std.proofs.Common.{◌≡◌, ◌≢◌, ℕ, ◌+◌, ◌-◌, ◌*◌, ◌%◌, ◌<◌, ◌≤◌, ◌^◌, ◌⊎◌, ⊎_elim, ◌∙◌, ap, arith}
use Rattle.std.specs.Prelude.{bit_and, ◌↔◌, min}
use Rattle.std.specs.Int.{bit_at, bit_not, trailing_zeros}
use Rattle.std.proofs.lemmas.Nat.{and_le_l}
use Rattle.std.proofs.lemmas.Nat.Bits.{bit_at_and, bit_at-lt, bit_at_above, bit_at_clear_other, bit_at_clear_same, bit_at_mask_below, bit_at_mask_inside, bit_at-trailing_zeros, ones_shl}
use mir.Syntax.{w32}
use Rattle.mesh_pairs.specs.Boxes.{IsIn}

same_bit : (a b : ℕ) → a ≡ b → (a ≡ 1) ↔ (b ≡ 1)
same_bit a b e = (λ h. omega arith, λ h. omega arith)

below_or_above : (k n : ℕ) → (k < n) ⊎ (n ≤ k)
below_or_above k n = grind arith

-- ---- the first

pub first_in : (n : ℕ) → 0 < n → n < 2 ^ 8 → IsIn n (trailing_zeros w32 n)
first_in n some few = (bit_at-trailing_zeros w32 n some (omega arith)).1

pub first_within : (n : ℕ) → 0 < n → n < 2 ^ 8 → trailing_zeros w32 n < 8
first_within n some few = ⊎_elim (λ (h : trailing_zeros w32 n < 8). h)
    (λ (h : 8 ≤ trailing_zeros w32 n). absurd (omega (arith, first_in n some few, bit_at_above n 8 (trailing_zeros w32 n) few h)))
    (below_or_above (trailing_zeros w32 n) 8)

-- ---- without one

abbrev pub cleared : ℕ → ℕ → ℕ
cleared n k = bit_and n (bit_not w32 (1 * 2 ^ k % 2 ^ 32))

pub cleared_others : (n k j : ℕ) → k < 8 → j < 8 → j ≢ k → IsIn (cleared n k) j ↔ IsIn n j
cleared_others n k j within place other = same_bit (bit_at (cleared n k) j) (bit_at n j) (bit_at_clear_other w32 n k (omega arith) j (omega arith) other)

pub cleared_less : (n k : ℕ) → k < 8 → IsIn n k → cleared n k < n
cleared_less n k within was = ⊎_elim (λ (h : cleared n k < n). h)
    (λ (h : n ≤ cleared n k).
    let same : cleared n k ≡ n = omega (arith, and_le_l n (bit_not w32 (1 * 2 ^ k % 2 ^ 32))) in
    absurd (omega (arith, was, bit_at_clear_same w32 n k (omega arith), ap (λ (m : ℕ). bit_at m k) same)))
    (below_or_above (cleared n k) n)

-- ---- those after one

abbrev pub later : ℕ → ℕ → ℕ
later n k = bit_and n (4294967295 * 2 ^ (k + 1) % 4294967296)

mask : (k : ℕ) → k < 8 → 4294967295 * 2 ^ (k + 1) % 4294967296 ≡ 2 ^ 32 - 2 ^ (k + 1)
mask k within = ones_shl 32 (k + 1) (omega arith)

later_bit : (n k j : ℕ) → k < 8 → bit_at (later n k) j ≡ min (bit_at n j) (bit_at (2 ^ 32 - 2 ^ (k + 1)) j)
later_bit n k j within = bit_at_and n (4294967295 * 2 ^ (k + 1) % 4294967296) j ∙ ap (λ (m : ℕ). min (bit_at n j) (bit_at m j)) (mask k within)

pub later_kept : (n k j : ℕ) → k < j → j < 8 → IsIn n j → IsIn (later n k) j
later_kept n k j h place is = omega (arith, later_bit n k j (omega arith), bit_at_mask_inside (k + 1) 32 j (omega arith) (omega arith), is)

pub later_after : (n k j : ℕ) → k < 8 → j < 8 → IsIn (later n k) j → k < j
later_after n k j within place is = ⊎_elim
    (λ (h : j < k + 1). absurd (omega (arith, later_bit n k j within, bit_at_mask_below (k + 1) 32 j h, is)))
    (λ (h : k + 1 ≤ j). omega arith)
    (below_or_above j (k + 1))

pub later_was : (n k j : ℕ) → k < 8 → IsIn (later n k) j → IsIn n j
later_was n k j within is = let f : bit_at n j < 2 = bit_at-lt n j in omega (arith, later_bit n k j within, is, f)
