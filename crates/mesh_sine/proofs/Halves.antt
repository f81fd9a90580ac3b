-- Lemmas over whole numbers: the pair of a quarter turn halved again and again, entry by entry, and its length.
use Rattle.std.proofs.Common.{◌≡◌, ℕ, ◌+◌, ◌*◌, ◌-◌, ◌/◌, ◌<◌, ◌≤◌, refl, sym, ◌∙◌, ap, arith, zero, suc, List, [], ◌∷◌, length}
use Rattle.std.specs.Prelude.{min, true, leb, ltb, eqb, ◌&&◌, get_or}
use Rattle.std.proofs.lemmas.Bool.{and_parts, leb-true, ltb-true, eqb-true}
use Rattle.mesh_plane.proofs.Sizes.{lt_of_squares}
use Rattle.mesh_sine.specs.Sine.{one, root, half_cosine, half_pair, halved}
use Rattle.mesh_sine.specs.Private.Halves.{is_half_cosine, is_half_sine, are_halves}
use Rattle.mesh_sine.proofs.Roots.{root_is, root_by}

-- a number whose square is at most another is at most its root
below_root : (n s : ℕ) → s * s ≤ n → s ≤ root n
below_root n s h =
    let a : s < root n + 1 = lt_of_squares s (root n + 1) (omega (arith, (root_is n).above)) in
    omega arith

sine_is : (q s n : ℕ) → q ≡ s → s * s ≤ n → min q (root n) ≡ s
sine_is q s n e h = omega (arith, below_root n s h)

-- the next pair: its cosine is a root by its square and the next one, and its sine fits beside the cosine
pub next_is : (k : ℕ) {e : ℕ × ℕ} (c s : ℕ) → halved k ≡ e → c * c ≤ one * (one + e.0) / 2 → one * (one + e.0) / 2 < (c + 1) * (c + 1)
    → e.1 * one / (2 * c) ≡ s → s * s ≤ one * one - c * c → halved (suc k) ≡ (c, s)
unfolding halved half_pair half_cosine
next_is k {e} c s p h l q r =
    let a : root (one * (one + e.0) / 2) ≡ c = root_by (one * (one + e.0) / 2) c h l in
    ap half_pair p ∙ (rw a (λ i. (c, sine_is (e.1 * one / (2 * c)) s (one * one - c * c) q r i)))

start : halved 0 ≡ (0, one)
unfolding halved
start = refl

half_is : (k : ℕ) (e a : ℕ × ℕ) → halved k ≡ e → (is_half_cosine e a && is_half_sine e a) ≡ true → halved (suc k) ≡ a
half_is k e a p h =
    let n = one * (one + e.0) / 2 in
    let q = e.1 * one / (2 * a.0) in
    let f = and_parts (is_half_cosine e a) (is_half_sine e a) h in
    let c = and_parts (leb (a.0 * a.0) n) (ltb n ((a.0 + 1) * (a.0 + 1))) f.0 in
    let s = and_parts (eqb q a.1) (leb (a.1 * a.1) (one * one - a.0 * a.0)) f.1 in
    next_is k a.0 a.1 p (leb-true (a.0 * a.0) n c.0) (ltb-true n ((a.0 + 1) * (a.0 + 1)) c.1) (eqb-true q a.1 s.0) (leb-true (a.1 * a.1) (one * one - a.0 * a.0) s.1)

-- in a list of such pairs stand a quarter turn's halves
listed_from : (k : ℕ) (e : ℕ × ℕ) (l : List (ℕ × ℕ)) (i : ℕ) (d : ℕ × ℕ) → halved k ≡ e → are_halves e l ≡ true → i < length l → get_or l i d ≡ halved (suc k + i)
listed_from k e [] i d p h b = absurd (omega arith)
listed_from k e (a ∷ l) zero d p h b =
    let f = and_parts (is_half_cosine e a && is_half_sine e a) (are_halves a l) h in
    sym (ap halved (omega arith) ∙ half_is k e a p f.0)
listed_from k e (a ∷ l) (suc i) d p h b =
    let f = and_parts (is_half_cosine e a && is_half_sine e a) (are_halves a l) h in
    listed_from (suc k) a l i d (half_is k e a p f.0) f.1 (omega arith) ∙ ap halved (omega arith)

pub listed : (l : List (ℕ × ℕ)) (i : ℕ) (d : ℕ × ℕ) → are_halves (0, one) l ≡ true → i < length l → get_or l i d ≡ halved (i + 1)
listed l i d h b = listed_from 0 (0, one) l i d start h b ∙ ap halved (omega arith)
