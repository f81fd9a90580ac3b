-- Lemmas over pairs: below a quarter turn, an angle of at least 2 ^ 24 bits has a sine of at least 2 ^ 24.
use Rattle.std.proofs.Common.{◌≡◌, ℕ, ◌+◌, ◌*◌, ◌-◌, ◌/◌, ◌%◌, ◌^◌, ◌<◌, ◌≤◌, List, [], ◌∷◌, refl, sym, ◌∙◌, ap, subst, arith, zero, suc, lit<, lit≤, pow_pos, ⊎_elim}
use Rattle.std.specs.Prelude.{pos, ◌≤ℤ◌, get_or}
use Rattle.std.proofs.Math.Nat.{div-mul-le_self, mul-le-mul_right, lt-div-mul-add, lt_of_mul-lt-mul_right, pow-le-pow_right}
use Rattle.std.proofs.lemmas.Bool.{cases_lt, cases_eq}
use Rattle.std.proofs.lemmas.Int.{ints}
use Rattle.mesh_plane.proofs.Sizes.{lt_of_squares}
use Rattle.mesh_sine.specs.Sine.{one, root, half_cosine, half_pair, halved, sum_pair, with_bits, low_pair, sin_cos}
use Rattle.mesh_sine.proofs.Roots.{root_is}
use Rattle.mesh_sine.proofs.Halves.{listed}
use Rattle.mesh_sine.proofs.Lengths.{IsPair, pair_bounded, halved_is_pair, sum_is_pair, bit_taken, bit_left, bits_end}

-- what the cosine of a quarter turn halved `k` times lacks
abbrev loss : ℕ → ℕ
loss k = one - (halved k).0

root_above : (c r : ℕ) → c ≤ one → one * (one + c) / 2 < (r + 1) * (r + 1) → one + c < 2 * (r + 1)
root_above c r h l =
    let a : one * (one + c) < 2 * (one * (one + c) / 2) + 2 = omega arith in
    let b : (one + c) * (one + c) ≤ 2 * one * (one + c) = mul-le-mul_right (one + c) (omega arith) in
    lt_of_squares (one + c) (2 * (r + 1)) (omega arith)

-- halving an angle at least halves the loss, but for 1
loss_halves : (k : ℕ) → 2 * loss (suc k) ≤ loss k + 2
unfolding halved half_pair half_cosine
loss_halves k =
    let c = (halved k).0 in
    let l : c ≤ one = (pair_bounded (halved k) (halved_is_pair k)).0 in
    let a : one + c < 2 * (root (one * (one + c) / 2) + 1) = root_above c (root (one * (one + c) / 2)) l (root_is (one * (one + c) / 2)).above in
    omega arith

-- adding an angle takes at most the loss of its cosine from the sine
sum_keeps : (s c e f : ℕ) → s ≤ one → c ≤ one → s ≤ (s * c + e * f) / one + (one - c)
sum_keeps s c e f h l = from (one - c) (omega arith)
  where
    from : (d : ℕ) → c + d ≡ one → s ≤ (s * c + e * f) / one + d
    from d p =
        let z : 0 < one = lit< tt in
        let a : s * c + e * f < (s * c + e * f) / one * one + one = lt-div-mul-add z in
        let b : s * d ≤ one * d = mul-le-mul_right d h in
        let g : s * (c + d) ≡ s * one = ap (λ (n : ℕ). s * n) p in
        let q : s * one < ((s * c + e * f) / one + d + 1) * one = omega arith in
        let r : s < (s * c + e * f) / one + d + 1 = lt_of_mul-lt-mul_right one q in
        omega arith

-- a sine with enough to spare stays great through the bits that are left
stays : (low j k : ℕ) (a : ℕ × ℕ) → k + j ≡ 30 → IsPair a → 2 ^ 54 + loss k + 2 * j ≤ a.1 → 2 ^ 54 ≤ (with_bits low j a).1
stays low zero k a e p h = subst (λ (b : ℕ × ℕ). 2 ^ 54 ≤ b.1) (sym (bits_end low a)) (omega arith)
stays low (suc j) k a e p h =
    let n : 30 - j ≡ suc k = omega arith in
    ⊎_elim
    (λ t.
    let b : ℕ × ℕ = halved (suc k) in
    let w : with_bits low (suc j) a ≡ with_bits low j (sum_pair a b) = bit_taken low j a t ∙ ap (λ (i : ℕ). with_bits low j (sum_pair a (halved i))) n in
    let s : a.1 ≤ (sum_pair a b).1 + loss (suc k) = sum_keeps a.1 b.0 a.0 b.1 (pair_bounded a p).1 (pair_bounded b (halved_is_pair (suc k))).0 in
    subst (λ (c : ℕ × ℕ). 2 ^ 54 ≤ c.1) (sym w) (stays low j (suc k) (sum_pair a b) (omega arith) (sum_is_pair a b p (halved_is_pair (suc k))) (omega (arith, loss_halves k))))
    (λ t. subst (λ (c : ℕ × ℕ). 2 ^ 54 ≤ c.1) (sym (bit_left low j a t)) (stays low j (suc k) a (omega arith) p (omega (arith, loss_halves k))))
    (cases_eq (low / 2 ^ j % 2) 1)

abbrev first_halves : List (ℕ × ℕ)
first_halves =
    (815238614083298888, 815238614083298888)
    ∷ (1065160580698383124, 441203958630471860)
    ∷ (1130768441178740757, 224923827593068886)
    ∷ (1147369872436662990, 113006068906017469)
    ∷ (1151532760162549489, 56571176913125534)
    ∷ (1152574266204915293, 28294110113536503)
    ∷ []

-- the first six halves have enough to spare
spares : (i : ℕ) → i < 6 → 2 ^ 54 + loss (i + 1) + 60 ≤ (halved (i + 1)).1
spares i h = subst (λ (a : ℕ × ℕ). 2 ^ 54 + (one - a.0) + 60 ≤ a.1) (listed first_halves i (0, 0) refl h) (each i h)
  where
    each : (i : ℕ) → i < 6 → 2 ^ 54 + (one - (get_or first_halves i (0, 0)).0) + 60 ≤ (get_or first_halves i (0, 0)).1
    each zero h = lit≤ tt
    each (suc zero) h = lit≤ tt
    each (suc (suc zero)) h = lit≤ tt
    each (suc (suc (suc zero))) h = lit≤ tt
    each (suc (suc (suc (suc zero)))) h = lit≤ tt
    each (suc (suc (suc (suc (suc zero))))) h = lit≤ tt
    each (suc (suc (suc (suc (suc (suc i)))))) h = absurd (omega arith)

-- the highest bit that is set gives its own pair
first_sum : (a : ℕ × ℕ) → sum_pair (one, 0) a ≡ a
first_sum a = λ i. (cosine i, sine i)
  where
    cosine : (one * a.0 - 0 * a.1) / one ≡ a.0
    cosine = omega arith

    sine : (0 * a.0 + one * a.1) / one ≡ a.1
    sine = omega arith

-- where the highest of `j + 1` bits is not set, the number has `j`
shorter : (low p : ℕ) → 0 < p → low < 2 * p → (low / p % 2 ≡ 1 → ⊥) → low < p
shorter low p h l n =
    let a : low < low / p * p + p = lt-div-mul-add h in
    let b : low / p * p ≤ low = div-mul-le_self low p in
    let c : low / p * p < 2 * p = omega arith in
    let d : low / p < 2 = lt_of_mul-lt-mul_right p c in
    let e : low / p ≡ 0 = ⊎_elim (λ t. omega arith) (λ t. absurd (n (omega arith))) (cases_lt (low / p) 1) in
    let f : low / p * p ≡ 0 * p = ap (λ (x : ℕ). x * p) e in
    omega arith

-- a number of at least 2 ^ 24 has more than 24 bits
longer : (low j : ℕ) → 2 ^ 24 ≤ low → low < 2 ^ j → 24 < j
longer low j h l =
    ⊎_elim
    (λ t. t)
    (λ t.
    let a : 2 ^ j ≤ 2 ^ 24 = pow-le-pow_right (lit< tt) t in
    absurd (omega arith))
    (cases_lt 24 j)

begins : (low j k : ℕ) → k + j ≡ 30 → 2 ^ 24 ≤ low → low < 2 ^ j → 2 ^ 54 ≤ (with_bits low j (one, 0)).1
begins low zero k e h p = absurd (omega arith)
begins low (suc j) k e h p =
    let n : 30 - j ≡ suc k = omega arith in
    let m : k < 6 = omega (arith, longer low (suc j) h p) in
    ⊎_elim
    (λ t.
    let w : with_bits low (suc j) (one, 0) ≡ with_bits low j (halved (suc k)) =
    bit_taken low j (one, 0) t ∙ ap (with_bits low j) (first_sum (halved (30 - j))) ∙ ap (λ (i : ℕ). with_bits low j (halved i)) n in
    let q : k + 1 ≡ suc k = omega arith in
    let s : 2 ^ 54 + loss (suc k) + 60 ≤ (halved (suc k)).1 = subst (λ (i : ℕ). 2 ^ 54 + loss i + 60 ≤ (halved i).1) q (spares k m) in
    subst (λ (c : ℕ × ℕ). 2 ^ 54 ≤ c.1) (sym w) (stays low j (suc k) (halved (suc k)) (omega arith) (halved_is_pair (suc k)) (omega arith)))
    (λ t.
    let z : 0 < 2 ^ j = pow_pos j in
    let l : low < 2 ^ j = shorter low (2 ^ j) z (omega arith) t in
    subst (λ (c : ℕ × ℕ). 2 ^ 54 ≤ c.1) (sym (bit_left low j (one, 0) t)) (begins low j (suc k) (omega arith) h l))
    (cases_eq (low / 2 ^ j % 2) 1)

pub sine_not_small : (bits : ℕ) → 2 ^ 24 ≤ bits → bits < 2 ^ 30 → pos (2 ^ 24) ≤ℤ (sin_cos bits).0
sine_not_small bits h l =
    let q : bits / 2 ^ 30 ≡ 0 = omega arith in
    let r : bits % 2 ^ 30 ≡ bits = omega arith in
    let s : 2 ^ 54 ≤ (low_pair bits).1 = begins bits 30 0 refl h l in
    rw (q, r) (omega (arith, ints))
