-- Lemmas over numbers: the radius and the step of the formula.
use Rattle.std.proofs.Common.{◌≡◌, ℕ, suc, ◌+◌, ◌*◌, ◌/◌, ◌%◌, ◌^◌, ◌<◌, ◌≤◌, min, sym, subst, arith, ◌∙◌, ⊎_elim}
use Rattle.std.specs.Prelude.{nat_eq}
use Rattle.std.proofs.Math.Nat.{mul-le-mul}
use Rattle.std.proofs.lemmas.Bool.{cases_lt, cond_both, eqb-true, true≢false}
use borrow.Author.Tests.{eq-eqb}
use Rattle.std.proofs.lemmas.Grind.{div_ceil_times}
use Rattle.mesh_plane.proofs.Sizes.{le_of_squares, lt_of_squares}
use Rattle.mesh_sine.specs.Sine.{root}
use Rattle.mesh_sine.proofs.Roots.{root_is}
use Rattle.mesh_num.specs.Roots.{raised_root}
use Rattle.mesh_num.proofs.Roots.{raised_root_reaches}
use Rattle.mesh_inner.specs.Formula.{DoesKeep, cosine}

-- what is rounded up to a whole number of shares, and the root of that, too
pub ceiling_reaches : (wanted shares n : ℕ) → 0 < shares → n ≡ wanted / shares + min 1 (wanted % shares) → wanted ≤ n * shares
ceiling_reaches wanted shares n some e = subst (λ (k : ℕ). wanted ≤ k * shares) (sym e) (div_ceil_times wanted shares some).0

pub ceiling_least : (wanted shares n k : ℕ) → 0 < shares → n ≡ wanted / shares + min 1 (wanted % shares) → wanted ≤ k * shares → n ≤ k
ceiling_least wanted shares n k some e h =
    let below : n * shares < wanted + shares = subst (λ (j : ℕ). j * shares < wanted + shares) (sym e) (div_ceil_times wanted shares some).1 in
    ⊎_elim
    (λ (l : k < n).
    let next : suc k ≤ n = omega (arith, l) in
    let own : shares ≤ shares = omega arith in
    let m : suc k * shares ≤ n * shares = mul-le-mul next own in
    absurd (omega (arith, below, h, m)))
    (λ (l : n ≤ k). l)
    (cases_lt k n)

pub raised_root_least : (n r : ℕ) → n ≤ r * r → raised_root n ≤ r
unfolding raised_root
raised_root_least n r h =
    cond_both (nat_eq (root n * root n) n) (root n) (suc (root n)) (λ k. k ≤ r)
    (λ e. le_of_squares (root n) r (omega (arith, eqb-true (root n * root n) n e, h)))
    (λ e.
    ⊎_elim
    (λ (l : root n * root n < n). let b : root n < r = lt_of_squares (root n) r (omega (arith, l, h)) in omega (arith, b))
    (λ (l : n ≤ root n * root n).
    absurd (true≢false (sym (eq-eqb (root n * root n) n (omega (arith, (root_is n).within, l))) ∙ e)))
    (cases_lt (root n * root n) n))

-- the radius that the code takes
pub radius_keeps : (distance step wanted shares n radius : ℕ) → wanted ≡ 2 ^ 31 * (suc distance * suc distance) → shares ≡ 2 ^ 30 + cosine step
    → 0 < shares → n ≡ wanted / shares + min 1 (wanted % shares) → radius ≡ raised_root n → DoesKeep distance step radius
radius_keeps distance step wanted shares n radius ew es some en er =
    let square : n ≤ radius * radius = subst (λ (r : ℕ). n ≤ r * r) (sym er) (raised_root_reaches n) in
    let own : shares ≤ shares = omega arith in
    let more : n * shares ≤ radius * radius * shares = mul-le-mul square own in
    let all : wanted ≤ radius * radius * shares = omega (arith, ceiling_reaches wanted shares n some en, more) in
    subst (λ (w : ℕ). w ≤ radius * radius * (2 ^ 30 + cosine step)) ew
    (subst (λ (s : ℕ). wanted ≤ radius * radius * s) es all)

pub radius_least : (distance step wanted shares n radius r : ℕ) → wanted ≡ 2 ^ 31 * (suc distance * suc distance) → shares ≡ 2 ^ 30 + cosine step
    → 0 < shares → n ≡ wanted / shares + min 1 (wanted % shares) → radius ≡ raised_root n → DoesKeep distance step r → radius ≤ r
radius_least distance step wanted shares n radius r ew es some en er h =
    let all : wanted ≤ r * r * shares =
    subst (λ (s : ℕ). wanted ≤ r * r * s) (sym es) (subst (λ (w : ℕ). w ≤ r * r * (2 ^ 30 + cosine step)) (sym ew) h) in
    subst (λ (k : ℕ). k ≤ r) (sym er) (raised_root_least n r (ceiling_least wanted shares n (r * r) some en all))
