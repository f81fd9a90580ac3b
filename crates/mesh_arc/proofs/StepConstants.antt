-- Lemmas over numbers: the sines and cosines of the default steps, computed by a list of halves, and their signs.
use Rattle.std.proofs.Common.{◌≡◌, ℕ, ◌+◌, ◌-◌, ◌/◌, ◌%◌, ◌^◌, ◌<◌, ◌≤◌, List, [], ◌∷◌, refl, sym, ◌∙◌, ap, arith, zero, suc, ⊎_elim}
use Rattle.std.specs.Prelude.{pos, ◌≤ℤ◌, get_or, nat_eq, if◌then◌else◌}
use Rattle.std.proofs.lemmas.Bool.{cases_eq, cond-true, cond-false, eq-eqb, ne_eqb}
use Rattle.std.proofs.lemmas.Int.{ints}
use Rattle.mesh_plane.specs.Plane.{Point}
use Rattle.mesh_sine.specs.Sine.{one, halved, sum_pair, with_bits, sin_cos}
use Rattle.mesh_sine.proofs.Halves.{listed}
use Rattle.mesh_sine.proofs.Lengths.{bit_taken, bit_left, bits_end}
use Rattle.mesh_arc.specs.Arcs.{step_bits}
use Rattle.mesh_arc.specs.Gaps.{default_options}

-- a quarter turn halved once, twice, up to 30 times
abbrev halves : List (ℕ × ℕ)
halves =
    (815238614083298888, 815238614083298888)
    ∷ (1065160580698383124, 441203958630471860)
    ∷ (1130768441178740757, 224923827593068886)
    ∷ (1147369872436662990, 113006068906017469)
    ∷ (1151532760162549489, 56571176913125534)
    ∷ (1152574266204915293, 28294110113536503)
    ∷ (1152834691737939371, 14148120384212744)
    ∷ (1152899801185339686, 7074193361797232)
    ∷ (1152916078738702569, 3537113327227484)
    ∷ (1152920148139012899, 1768558744408522)
    ∷ (1152921165489838583, 884279632303723)
    ∷ (1152921419827591760, 442139848664297)
    ∷ (1152921483412032977, 221069928396203)
    ∷ (1152921499308143464, 110534964706108)
    ∷ (1152921503282171097, 55267482416554)
    ∷ (1152921504275678006, 27633741216214)
    ∷ (1152921504524054733, 13816870609099)
    ∷ (1152921504586148915, 6908435304673)
    ∷ (1152921504601672460, 3454217652352)
    ∷ (1152921504605553346, 1727108826177)
    ∷ (1152921504606523568, 863554413088)
    ∷ (1152921504606766123, 431777206544)
    ∷ (1152921504606826762, 215888603272)
    ∷ (1152921504606841922, 107944301636)
    ∷ (1152921504606845712, 53972150818)
    ∷ (1152921504606846659, 26986075409)
    ∷ (1152921504606846896, 13493037704)
    ∷ (1152921504606846955, 6746518852)
    ∷ (1152921504606846970, 3373259426)
    ∷ (1152921504606846974, 1686629713)
    ∷ []

-- the pair of an angle after its lowest `n` bits are added by this list
abbrev with_halves : ℕ → ℕ → ℕ × ℕ → ℕ × ℕ
with_halves low zero a = a
with_halves low (suc j) a = with_halves low j (if nat_eq (low / 2 ^ j % 2) 1 then sum_pair a (get_or halves (29 - j) (0, 0)) else a)

half_of_bit : (j : ℕ) → j < 30 → get_or halves (29 - j) (0, 0) ≡ halved (30 - j)
half_of_bit j h =
    let b : 29 - j < 30 = omega arith in
    let e : 29 - j + 1 ≡ 30 - j = omega arith in
    listed halves (29 - j) (0, 0) refl b ∙ ap halved e

bits_by_halves : (low j : ℕ) (a : ℕ × ℕ) → j ≤ 30 → with_bits low j a ≡ with_halves low j a
bits_by_halves low zero a h = bits_end low a
bits_by_halves low (suc j) a h =
    let k : j < 30 = omega arith in
    let l : j ≤ 30 = omega arith in
    ⊎_elim
    (λ t.
    bit_taken low j a t
    ∙ ap (λ (b : ℕ × ℕ). with_bits low j (sum_pair a b)) (sym (half_of_bit j k))
    ∙ bits_by_halves low j (sum_pair a (get_or halves (29 - j) (0, 0))) l
    ∙ ap (with_halves low j) (sym (cond-true (nat_eq (low / 2 ^ j % 2) 1) (sum_pair a (get_or halves (29 - j) (0, 0))) a (eq-eqb (low / 2 ^ j % 2) 1 t))))
    (λ t.
    bit_left low j a t
    ∙ bits_by_halves low j a l
    ∙ ap (with_halves low j) (sym (cond-false (nat_eq (low / 2 ^ j % 2) 1) (sum_pair a (get_or halves (29 - j) (0, 0))) a (ne_eqb (low / 2 ^ j % 2) 1 t))))
    (cases_eq (low / 2 ^ j % 2) 1)

-- ---- the default steps of both widths, and the greatest step

abbrev ends_of : ℕ × ℕ → Point
ends_of a = (pos (a.1 / 2 ^ 30), pos (a.0 / 2 ^ 30))

pub narrow_step : sin_cos (step_bits (2 ^ 14) default_options) ≡ (pos 740388522, pos 777654383)
narrow_step =
    let b : 30 ≤ 30 = omega arith in
    let e : with_halves 520093696 30 (one, 0) ≡ (835000036583525151, 794986122325684070) = refl in
    ap ends_of (bits_by_halves 520093696 30 (one, 0) b ∙ e)

pub wide_step : sin_cos (step_bits (2 ^ 30) default_options) ≡ (pos 740966686, pos 777103515)
wide_step =
    let b : 30 ≤ 30 = omega arith in
    let e : with_halves 520602088 30 (one, 0) ≡ (834408546022867579, 795606921858350792) = refl in
    ap ends_of (bits_by_halves 520602088 30 (one, 0) b ∙ e)

pub greatest_step : sin_cos (2 ^ 29) ≡ (pos 759250124, pos 759250124)
greatest_step =
    let b : 30 ≤ 30 = omega arith in
    let e : with_halves (2 ^ 29) 30 (one, 0) ≡ (815238614083298888, 815238614083298888) = refl in
    ap ends_of (bits_by_halves (2 ^ 29) 30 (one, 0) b ∙ e)

-- below a quarter turn no sine is below 0
pub sine_nonneg : (bits : ℕ) → bits < 2 ^ 30 → pos 0 ≤ℤ (sin_cos bits).0
sine_nonneg bits h =
    let q : bits / 2 ^ 30 ≡ 0 = omega arith in
    rw q (omega (arith, ints))
