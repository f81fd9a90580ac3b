-- Lemmas over whole numbers: a whole root by a shorter one, and the greatest number with a share by one root.
use Rattle.std.proofs.Common.{◌≡◌, ◌≢◌, ℕ, ◌+◌, ◌*◌, ◌-◌, ◌/◌, ◌%◌, ◌^◌, ◌<◌, ◌≤◌, zero, suc, refl, sym, ap, subst, ◌∙◌, arith, ⊎_elim, mod-eq_of_lt}
use Rattle.std.specs.Prelude.{nat_eq}
use Rattle.std.proofs.Math.Nat.{mul-le-mul, mul-le-mul_left, mul-le-mul_right, div-mul-le_self}
use Rattle.std.proofs.Math.Nat.{le_of_mul-le-mul_right, lt_of_mul-lt-mul_right, lt-div-mul-add}
use Rattle.std.specs.Int.Count.{count_leading_zeros}
use Rattle.std.proofs.Math.Pow.{pow_mono}
use Rattle.std.proofs.lemmas.Nat.{le-div, leading_top, pow-add, pow_pos}
use Rattle.std.proofs.lemmas.Bool.{cases_lt, cond_both, eqb-true, true≢false}
use borrow.Author.Tests.{eq-eqb}
use Rattle.mesh_plane.proofs.Sizes.{le_of_squares, lt_of_squares}
use Rattle.mesh_sine.specs.Sine.{root}
use Rattle.mesh_sine.proofs.Roots.{root_is, root_by}
use Rattle.mesh_num.specs.Roots.{raised_root}

-- ---- the root of 2^64 times a number, by the root of the number

-- a number whose square leaves much is not 0
pub root_large : (number root : ℕ) → 2 ^ 62 ≤ number → number < (root + 1) * (root + 1) → 2 ^ 31 ≤ root
root_large number root h a =
    let b : 2 ^ 31 < root + 1 = lt_of_squares (2 ^ 31) (root + 1) (omega arith) in
    omega arith

-- the root with the rest over twice it is at most one too great
pub near_within : (number root : ℕ) → 2 ^ 62 ≤ number → root * root ≤ number → number < (root + 1) * (root + 1)
    → (root * 2 ^ 32 + (number - root * root) * 2 ^ 31 / root - 1) * (root * 2 ^ 32 + (number - root * root) * 2 ^ 31 / root - 1)
    ≤ number * 2 ^ 64
near_within number root h w a =
    near ((number - root * root) * 2 ^ 31 / root) (div-mul-le_self ((number - root * root) * 2 ^ 31) root)
  where
    near : (q : ℕ) → q * root ≤ (number - root * root) * 2 ^ 31
        → (root * 2 ^ 32 + q - 1) * (root * 2 ^ 32 + q - 1) ≤ number * 2 ^ 64
    near zero l =
        let b : root * 2 ^ 32 + 0 - 1 ≤ root * 2 ^ 32 = omega arith in
        let c : (root * 2 ^ 32 + 0 - 1) * (root * 2 ^ 32 + 0 - 1) ≤ root * 2 ^ 32 * (root * 2 ^ 32) = mul-le-mul b b in
        omega arith
    near (suc k) l =
        let large = root_large number root h a in
        let b : (k + 1) * root ≤ 2 ^ 32 * root = omega arith in
        let c : k + 1 ≤ 2 ^ 32 = le_of_mul-le-mul_right b (omega arith) in
        let m : k ≤ 2 ^ 32 = omega arith in
        let d : k * k ≤ 2 ^ 32 * 2 ^ 32 = mul-le-mul m m in
        let e : (root * 2 ^ 32 + k) * (root * 2 ^ 32 + k) ≤ number * 2 ^ 64 = omega arith in
        let f : root * 2 ^ 32 + suc k - 1 ≡ root * 2 ^ 32 + k = omega arith in
        rw f e

-- the even shift by a number's leading zeros keeps its digits, and leaves at most one zero
shifted_size : (number half empty digits : ℕ) → half ≡ empty / 2 → empty + suc digits ≡ 64 → 2 ^ digits ≤ number
    → number < 2 ^ suc digits → (2 ^ 62 ≤ number * 2 ^ (2 * half)) × (number * 2 ^ (2 * half) < 2 ^ 64)
shifted_size number half empty digits e z l h =
    let a : 2 ^ digits * 2 ^ (2 * half) ≤ number * 2 ^ (2 * half) = mul-le-mul_right (2 ^ (2 * half)) l in
    let i : 62 ≤ digits + 2 * half = omega arith in
    let b : 2 ^ 62 ≤ 2 ^ (digits + 2 * half) = pow_mono i in
    let c : (number + 1) * 2 ^ (2 * half) ≤ 2 ^ suc digits * 2 ^ (2 * half) = mul-le-mul_right (2 ^ (2 * half)) (omega arith) in
    let j : suc digits + 2 * half ≤ 64 = omega arith in
    let d : 2 ^ (suc digits + 2 * half) ≤ 2 ^ 64 = pow_mono j in
    let p : 0 < 2 ^ (2 * half) = pow_pos (2 * half) in
    (omega (arith, pow-add 2 digits (2 * half)), omega (arith, pow-add 2 (suc digits) (2 * half)))

shifted : (number : ℕ) → 0 < number → number < 2 ^ 63
    → (2 ^ 62 ≤ number * 2 ^ (2 * (count_leading_zeros 64 number / 2))) × (number * 2 ^ (2 * (count_leading_zeros 64 number / 2)) < 2 ^ 64)
shifted number p h =
    let t = leading_top 64 number p (omega arith) in
    shifted_size number (count_leading_zeros 64 number / 2) (count_leading_zeros 64 number) t.0 refl t.1 t.2 t.3

pub shifted_large : (number : ℕ) → 0 < number → number < 2 ^ 63
    → 2 ^ 62 ≤ number * 2 ^ (2 * (count_leading_zeros 64 number / 2)) % 2 ^ 64
shifted_large number p h =
    let t = shifted number p h in
    rw (mod-eq_of_lt t.1) t.0

pub shifted_whole : (number : ℕ) → 0 < number → number < 2 ^ 63
    → number * 2 ^ (2 * (count_leading_zeros 64 number / 2)) % 2 ^ 64
    ≡ number * (2 ^ (count_leading_zeros 64 number / 2) * 2 ^ (count_leading_zeros 64 number / 2))
shifted_whole number p h =
    let half = count_leading_zeros 64 number / 2 in
    let t = shifted number p h in
    let d : 2 * half ≡ half + half = omega arith in
    mod-eq_of_lt t.1 ∙ ap (λ k. number * k) (ap (λ k. 2 ^ k) d ∙ pow-add 2 half half)

-- a root of the number times an even power, without the half of its digits
pub shifted_above : (number power root : ℕ) → 0 < power → number * (power * power) * 2 ^ 64 < (root + 1) * (root + 1)
    → number * 2 ^ 64 < (root / power + 1) * (root / power + 1)
shifted_above number power root p a =
    let b : root < root / power * power + power = lt-div-mul-add p in
    let l : root + 1 ≤ (root / power + 1) * power = omega arith in
    let c : (root + 1) * (root + 1) ≤ (root / power + 1) * power * ((root / power + 1) * power) = mul-le-mul l l in
    let d : number * 2 ^ 64 * (power * power) < (root / power + 1) * (root / power + 1) * (power * power) = omega arith in
    lt_of_mul-lt-mul_right (power * power) d

pub shifted_within : (number power root : ℕ) → 0 < power → (root - 1) * (root - 1) ≤ number * (power * power) * 2 ^ 64
    → (root / power - 1) * (root / power - 1) ≤ number * 2 ^ 64
shifted_within number power root p w = within (root / power) (div-mul-le_self root power)
  where
    within : (q : ℕ) → q * power ≤ root → (q - 1) * (q - 1) ≤ number * 2 ^ 64
    within zero l = omega arith
    within (suc k) l =
        let a : k * power ≤ root - 1 = omega arith in
        let b : k * power * (k * power) ≤ (root - 1) * (root - 1) = mul-le-mul a a in
        let c : k * k * (power * power) ≤ number * 2 ^ 64 * (power * power) = omega arith in
        let d : k * k ≤ number * 2 ^ 64 = le_of_mul-le-mul_right c (mul-le-mul p p) in
        let e : suc k - 1 ≡ k = omega arith in
        rw e d

-- its square fits
pub near_fits : (number root : ℕ) → number < 2 ^ 63 → (root - 1) * (root - 1) ≤ number * 2 ^ 64 → root * root < 2 ^ 128
near_fits number root h w =
    let a : root - 1 < 3 * 2 ^ 62 = lt_of_squares (root - 1) (3 * 2 ^ 62) (omega arith) in
    let b : root ≤ 3 * 2 ^ 62 = omega arith in
    omega (arith, mul-le-mul b b)

-- ---- shares by one root

pub share_bounded : (unit square size j : ℕ) → 0 < square → size * size ≤ square
    → j * j * square ≤ unit * unit * (size * size) → j ≤ unit
share_bounded unit square size j h s p =
    let a : unit * unit * (size * size) ≤ unit * unit * square = mul-le-mul_left (unit * unit) s in
    let b : j * j * square ≤ unit * unit * square = omega arith in
    le_of_squares j unit (le_of_mul-le-mul_right b h)

-- the length in 2^32nds of a grid unit of a vector other than 0
pub root_long : (square root : ℕ) → 0 < square → square * 2 ^ 64 < (root + 1) * (root + 1) → 2 ^ 32 ≤ root
root_long square root h a =
    let b : 2 ^ 32 < root + 1 = lt_of_squares (2 ^ 32) (root + 1) (omega arith) in
    omega arith

-- ---- the leading digits of such a root

-- a root without its last digits, where `fine` and `rest` share the digits of 2^32
cut_within : (square root fine rest : ℕ) → fine * rest ≡ 2 ^ 32 → 0 < rest → root * root ≤ square * 2 ^ 64
    → root / rest * (root / rest) ≤ square * (fine * fine)
cut_within square root fine rest e p w =
    let l : root / rest * rest ≤ root = div-mul-le_self root rest in
    let a : root / rest * rest * (root / rest * rest) ≤ root * root = mul-le-mul l l in
    let b : square * (fine * rest * (fine * rest)) ≡ square * (2 ^ 32 * 2 ^ 32) = ap (λ k. square * (k * k)) e in
    let c : root / rest * (root / rest) * (rest * rest) ≤ square * (fine * fine) * (rest * rest) = omega arith in
    le_of_mul-le-mul_right c (mul-le-mul p p)

cut_above : (square root fine rest : ℕ) → fine * rest ≡ 2 ^ 32 → 0 < rest → square * 2 ^ 64 < (root + 1) * (root + 1)
    → square * (fine * fine) < (root / rest + 1) * (root / rest + 1)
cut_above square root fine rest e p a =
    let h : root < root / rest * rest + rest = lt-div-mul-add p in
    let l : root + 1 ≤ (root / rest + 1) * rest = omega arith in
    let c : (root + 1) * (root + 1) ≤ (root / rest + 1) * rest * ((root / rest + 1) * rest) = mul-le-mul l l in
    let b : square * (fine * rest * (fine * rest)) ≡ square * (2 ^ 32 * 2 ^ 32) = ap (λ k. square * (k * k)) e in
    let d : square * (fine * fine) * (rest * rest) < (root / rest + 1) * (root / rest + 1) * (rest * rest) = omega arith in
    lt_of_mul-lt-mul_right (rest * rest) d

-- no component passes the length, in `fine` parts of a grid unit
size_within : (square root size fine : ℕ) → square * (fine * fine) < (root + 1) * (root + 1) → size * size ≤ square
    → size * fine ≤ root
size_within square root size fine a s =
    let c : size * size * (fine * fine) ≤ square * (fine * fine) = mul-le-mul_right (fine * fine) s in
    let b : size * fine < root + 1 = lt_of_squares (size * fine) (root + 1) (omega arith) in
    omega arith

-- `root` is a length in `fine` parts of a grid unit, cut, and the product that it divides fits 64 bits
pub record IsLeading (unit square size fine root : ℕ) : Type 0 where
  pub within : root * root ≤ square * (fine * fine)
  pub above : square * (fine * fine) < (root + 1) * (root + 1)
  pub long : 2 ^ 32 ≤ root
  pub fits : unit * size * fine < 2 ^ 64

-- a root of at least 33 digits has few empty ones in 64
empty_few : (root empty digits : ℕ) → empty + suc digits ≡ 64 → root < 2 ^ suc digits → 2 ^ 32 ≤ root → empty ≤ 31
empty_few root empty digits e h l =
    ⊎_elim (λ g. omega arith) (λ g. absurd (short g)) (cases_lt 32 (suc digits))
  where
    short : suc digits ≤ 32 → ⊥
    short g =
        let a : 2 ^ suc digits ≤ 2 ^ 32 = pow_mono g in
        omega arith

-- what the digits of a root leave empty has room for a unit
product_fits : (unit square root size empty digits : ℕ) → empty + suc digits ≡ 64 → root < 2 ^ suc digits → unit ≤ 2 ^ 30
    → square * 2 ^ 64 < (root + 1) * (root + 1) → size * size ≤ square → unit * size * 2 ^ (empty + 1) < 2 ^ 64
product_fits unit square root size empty digits e h u a s =
    let some : 0 < 2 ^ empty = pow_pos empty in
    let b : size * 2 ^ 32 ≤ root = size_within square root size (2 ^ 32) (omega arith) s in
    let c : (size * 2 ^ 32 + 1) * 2 ^ empty ≤ 2 ^ suc digits * 2 ^ empty = mul-le-mul_right (2 ^ empty) (omega arith) in
    let d : suc digits + empty ≡ 64 = omega arith in
    let f : 2 ^ suc digits * 2 ^ empty ≡ 2 ^ 64 = sym (pow-add 2 (suc digits) empty) ∙ ap (λ k. 2 ^ k) d in
    let g : size * 2 ^ empty < 2 ^ 32 = omega arith in
    let i : unit * (size * 2 ^ empty) ≤ 2 ^ 30 * (size * 2 ^ empty) = mul-le-mul_right (size * 2 ^ empty) u in
    let j : unit * size * 2 ^ (empty + 1) ≡ unit * size * (2 ^ empty * 2 ^ 1) = ap (λ k. unit * size * k) (pow-add 2 empty 1) in
    omega arith

leading_by : (unit square root size empty digits : ℕ) → empty + suc digits ≡ 64 → 2 ^ digits ≤ root → root < 2 ^ suc digits
    → unit ≤ 2 ^ 30 → 0 < square → root * root ≤ square * 2 ^ 64 → square * 2 ^ 64 < (root + 1) * (root + 1)
    → size * size ≤ square → IsLeading unit square size (2 ^ (empty + 1)) (root / 2 ^ (31 - empty))
leading_by unit square root size empty digits e l h u p w a s =
    let few : empty ≤ 31 = empty_few root empty digits e h (root_long square root p a) in
    let some : 0 < 2 ^ (31 - empty) = pow_pos (31 - empty) in
    let both : empty + 1 + (31 - empty) ≡ 32 = omega arith in
    let whole : 2 ^ (empty + 1) * 2 ^ (31 - empty) ≡ 2 ^ 32 =
    sym (pow-add 2 (empty + 1) (31 - empty)) ∙ ap (λ k. 2 ^ k) both in
    let all : 32 + (31 - empty) ≡ digits = omega arith in
    let top : 2 ^ 32 * 2 ^ (31 - empty) ≡ 2 ^ digits = sym (pow-add 2 32 (31 - empty)) ∙ ap (λ k. 2 ^ k) all in
    let above = cut_above square root (2 ^ (empty + 1)) (2 ^ (31 - empty)) whole some a in
    let long = le-div (2 ^ 32) root (2 ^ (31 - empty)) some (omega arith) in
    record {
      within = cut_within square root (2 ^ (empty + 1)) (2 ^ (31 - empty)) whole some w;
      above = above;
      long = long;
      fits = product_fits unit square root size empty digits e h u a s;
    }

root_fits : (square root : ℕ) → square < 2 ^ 63 → root * root ≤ square * 2 ^ 64 → root < 2 ^ 64
root_fits square root m w = lt_of_squares root (2 ^ 64) (omega arith)

pub leading_few : (square root : ℕ) → square < 2 ^ 63 → 0 < square → root * root ≤ square * 2 ^ 64
    → square * 2 ^ 64 < (root + 1) * (root + 1) → count_leading_zeros 64 root ≤ 31
leading_few square root m p w a =
    let some : 2 ^ 32 ≤ root = root_long square root p a in
    let t = leading_top 64 root (omega arith) (root_fits square root m w) in
    empty_few root (count_leading_zeros 64 root) t.0 t.1 t.3 some

pub leading : (unit square root size : ℕ) → unit ≤ 2 ^ 30 → square < 2 ^ 63 → 0 < square → root * root ≤ square * 2 ^ 64
    → square * 2 ^ 64 < (root + 1) * (root + 1) → size * size ≤ square
    → IsLeading unit square size (2 ^ (count_leading_zeros 64 root + 1)) (root / 2 ^ (31 - count_leading_zeros 64 root))
leading unit square root size u m p w a s =
    let some : 2 ^ 32 ≤ root = root_long square root p a in
    let t = leading_top 64 root (omega arith) (root_fits square root m w) in
    leading_by unit square root size (count_leading_zeros 64 root) t.0 t.1 t.2 t.3 u p w a s

-- the quotient by the root is at least each number with a share
pub quotient_enough : (unit square root size fine j : ℕ) → IsLeading unit square size fine root
    → j * j * square ≤ unit * unit * (size * size) → j ≤ unit * size * fine / root
quotient_enough unit square root size fine j h p =
    let w = h.within in
    let a : j * j * (root * root) ≤ j * j * (square * (fine * fine)) = mul-le-mul_left (j * j) w in
    let c : j * j * square * (fine * fine) ≤ unit * unit * (size * size) * (fine * fine) = mul-le-mul_right (fine * fine) p in
    let b : j * root ≤ unit * size * fine = le_of_squares (j * root) (unit * size * fine) (omega arith) in
    le-div j (unit * size * fine) root (omega (arith, h.long)) b

-- one less than the quotient by the root has a share
pub quotient_near : (unit square root size fine q : ℕ) → IsLeading unit square size fine root → unit ≤ 2 ^ 30
    → size * size ≤ square → q ≤ unit * size * fine / root → (q - 1) * (q - 1) * square ≤ unit * unit * (size * size)
quotient_near unit square root size fine zero h u s l = omega arith
quotient_near unit square root size fine (suc k) h u s l =
    let e : suc k - 1 ≡ k = omega arith in
    rw e (⊎_elim (λ g. absurd (never g)) (λ g. g) (cases_lt (unit * unit * (size * size)) (k * k * square)))
  where
    never : unit * unit * (size * size) < k * k * square → ⊥
    never g =
        let b : (k + 1) * root ≤ unit * size * fine =
        omega (arith, mul-le-mul_right root l, div-mul-le_self (unit * size * fine) root) in
        let c : (k + 1) * root * ((k + 1) * root) ≤ unit * size * fine * (unit * size * fine) = mul-le-mul b b in
        let o : square * (fine * fine) ≤ (root + 1) * (root + 1) = omega (arith, h.above) in
        let d : k * k * (square * (fine * fine)) ≤ k * k * ((root + 1) * (root + 1)) = mul-le-mul_left (k * k) o in
        let g : unit * unit * (size * size) ≤ k * k * square = omega arith in
        let i : unit * unit * (size * size) * (fine * fine) ≤ k * k * square * (fine * fine) =
        mul-le-mul_right (fine * fine) g in
        let e : (k + 1) * root ≤ k * (root + 1) = le_of_squares ((k + 1) * root) (k * (root + 1)) (omega arith) in
        let f : unit * (size * fine) ≤ unit * root = mul-le-mul_left unit (size_within square root size fine h.above s) in
        let m : (k + 1) * root ≤ unit * root = omega arith in
        let n : k + 1 ≤ unit = le_of_mul-le-mul_right m (omega (arith, h.long)) in
        omega (arith, h.long)

-- the quotient by the root passes the unit by at most one
pub quotient_bounded : (unit square root size fine : ℕ) → IsLeading unit square size fine root → unit ≤ 2 ^ 30
    → 0 < square → size * size ≤ square → unit * size * fine / root ≤ unit + 1
quotient_bounded unit square root size fine h u p s =
    ⊎_elim (λ l. absurd (never l)) (λ l. l) (cases_lt (unit + 1) (unit * size * fine / root))
  where
    never : unit + 1 < unit * size * fine / root → ⊥
    never l =
        let b = quotient_near unit square root size fine (unit + 2) h u s (omega arith) in
        let e : unit + 2 - 1 ≡ unit + 1 = omega arith in
        let d : unit + 1 ≤ unit = share_bounded unit square size (unit + 1) p s (rw e at b) in
        omega arith

-- ---- raised roots

-- a raised root's square is not less than the number
pub raised_root_reaches : (n : ℕ) → n ≤ raised_root n * raised_root n
unfolding raised_root
raised_root_reaches n =
    cond_both (nat_eq (root n * root n) n) (root n) (suc (root n)) (λ r. n ≤ r * r)
    (λ e. omega (arith, eqb-true (root n * root n) n e))
    (λ e. omega (arith, (root_is n).above))

-- the root that the code takes, and how it is raised
pub raised_root_exact : (n r : ℕ) → r * r ≤ n → n < (r + 1) * (r + 1) → r * r ≡ n → r ≡ raised_root n
unfolding raised_root
raised_root_exact n r h l e =
    let s : root n ≡ r = root_by n r h l in
    cond_both (nat_eq (root n * root n) n) (root n) (suc (root n)) (λ k. r ≡ k)
    (λ _. sym s)
    (λ f. absurd (true≢false (sym (eq-eqb (root n * root n) n (rw s e)) ∙ f)))

pub raised_root_next : (n r : ℕ) → r * r ≤ n → n < (r + 1) * (r + 1) → r * r ≢ n → r + 1 ≡ raised_root n
unfolding raised_root
raised_root_next n r h l ne =
    let s : root n ≡ r = root_by n r h l in
    cond_both (nat_eq (root n * root n) n) (root n) (suc (root n)) (λ k. r + 1 ≡ k)
    (λ f. absurd (ne (subst (λ (k : ℕ). k * k ≡ n) s (eqb-true (root n * root n) n f))))
    (λ _. omega (arith, s))
