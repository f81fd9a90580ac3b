-- Lemmas over points and lists: all edges that leave a point leave at the ends that are listed there.
use Rattle.std.proofs.Common.{◌≡◌, ℕ, zero, suc, ◌<◌, ⊎_elim, ◌⊎◌, Bool, true, false, List, [], ◌∷◌, ◌++◌, length, sym, ◌∙◌, ap, subst, arith}
use Rattle.std.specs.Prelude.{pos, ◌≤ℤ◌, nat_eq}
use Rattle.std.specs.List.{Contains}
use Rattle.std.proofs.lemmas.Bool.{cases_Bool}
use Rattle.std.proofs.lemmas.Bool.Decides.{nat_tests}
use Rattle.std.proofs.lemmas.Int.{ints}
use Rattle.std.proofs.lemmas.List.{get_or_default}
use Rattle.std.proofs.lemmas.List.Elements.{Contains-append_left, Contains-push}
use Rattle.mesh_plane.specs.Plane.{Point, Edge}
use Rattle.mesh_lattice.specs.Counted.{Counted, bit, times, IsCountOf}
use Rattle.mesh_lattice.specs.Split.{back, same_ends}
use Rattle.mesh_lattice.proofs.Ends.{decides_ends}
use Rattle.mesh_boundary.specs.Private.Stars.{segment, leaving, listed, one_if, star_at, AreAllAt, AreStarsAt, IsAmong}

-- ---- the segment that an edge is

record IsFound (q : Edge) (ks : List Counted) : Type 0 where
  place : ℕ
  within : place < length ks
  same : same_ends q (segment ks place).0 ≡ true

found : (q : Edge) (ks : List Counted) → pos 1 ≤ℤ times q ks → IsFound q ks
found q [] h = absurd (omega (arith, ints, h))
found q (k ∷ ks) h =
    ⊎_elim
    (λ (t : same_ends q k.0 ≡ true). record { place = 0; within = omega arith; same = t })
    (λ (f : same_ends q k.0 ≡ false).
    let rest = found q ks (omega (arith, ints, h, ap bit f)) in
    record { place = suc rest.place; within = omega (arith, rest.within); same = rest.same })
    (cases_Bool (same_ends q k.0))

-- ---- what is listed

same_number : (a b : ℕ) → a ≡ b → nat_eq a b ≡ true
same_number a b h = grind (arith, nat_tests)

below_or_last : (k n : ℕ) → k < suc n → (k < n) ⊎ (k ≡ n)
below_or_last k n h = grind arith

listed_one : (b : Bool) (x : ℕ × Bool) (xs : List (ℕ × Bool)) → b ≡ true → Contains (xs ++ one_if b x) x
listed_one b x xs t = subst (λ (c : Bool). Contains (xs ++ one_if c x) x) (sym t) (Contains-push xs x)

listed_start : (at : Point → ℕ) (ks : List Counted) (i k n : ℕ) → k < n → i ≡ at (segment ks k).0.0 → Contains (listed at ks i n) (k, true)
listed_start at ks i k zero h e = absurd (omega (arith, h))
listed_start at ks i k (suc n) h e =
    Contains-append_left (listed at ks i n ++ starts) _ (k, true)
    (⊎_elim (λ (l : k < n). Contains-append_left (listed at ks i n) starts (k, true) (listed_start at ks i k n l e)) last (below_or_last k n h))
  where
    starts : List (ℕ × Bool)
    starts = one_if (nat_eq i (at (segment ks n).0.0)) (n, true)

    last : k ≡ n → Contains (listed at ks i n ++ starts) (k, true)
    last same =
        subst (λ (m : ℕ). Contains (listed at ks i n ++ starts) (m, true)) (sym same)
        (listed_one (nat_eq i (at (segment ks n).0.0)) (n, true) (listed at ks i n)
        (same_number i (at (segment ks n).0.0) (e ∙ ap (λ (m : ℕ). at (segment ks m).0.0) same)))

listed_end : (at : Point → ℕ) (ks : List Counted) (i k n : ℕ) → k < n → i ≡ at (segment ks k).0.1 → Contains (listed at ks i n) (k, false)
listed_end at ks i k zero h e = absurd (omega (arith, h))
listed_end at ks i k (suc n) h e =
    ⊎_elim (λ (l : k < n). Contains-append_left some stops (k, false) (Contains-append_left (listed at ks i n) _ (k, false) (listed_end at ks i k n l e))) last (below_or_last k n h)
  where
    some : List (ℕ × Bool)
    some = listed at ks i n ++ one_if (nat_eq i (at (segment ks n).0.0)) (n, true)

    stops : List (ℕ × Bool)
    stops = one_if (nat_eq i (at (segment ks n).0.1)) (n, false)

    last : k ≡ n → Contains (some ++ stops) (k, false)
    last same =
        subst (λ (m : ℕ). Contains (some ++ stops) (m, false)) (sym same)
        (listed_one (nat_eq i (at (segment ks n).0.1)) (n, false) some
        (same_number i (at (segment ks n).0.1) (e ∙ ap (λ (m : ℕ). at (segment ks m).0.1) same)))

among : (ks : List Counted) (star : List (ℕ × Bool)) (x : ℕ × Bool) (f : Edge) → Contains star x → (leaving ks x).0 ≡ f → IsAmong ks star f
among ks star x f h e = record {
  place = h.0;
  within = h.1;
  same = ap (λ (y : ℕ × Bool). (leaving ks y).0) (get_or_default star h.0 (0, false) x h.1 ∙ h.2) ∙ e;
}

-- ---- all of them

pub all_listed : (es : List Edge) (ks : List Counted) (parts : List (ℕ × ℕ)) (members : List (ℕ × Bool)) (ends : List (ℕ × ℕ)) (at : Point → ℕ) → AreStarsAt at parts members ends ks
    → IsCountOf es ks → (v : Point) → AreAllAt es ks v (star_at parts members (at v))
all_listed es ks parts members ends at stars is v f stands start =
    ⊎_elim forwards backwards ((decides_ends f (segment ks one.place).0).0 one.same)
  where
    once : pos 1 ≤ℤ times f ks
    once = omega (arith, ints, is.once f, ap bit stands)

    one : IsFound f ks
    one = found f ks once

    in_star : (x : ℕ × Bool) → (leaving ks x).0 ≡ f → Contains (listed at ks (at v) (length ks)) x → IsAmong ks (star_at parts members (at v)) f
    in_star x e h = among ks (star_at parts members (at v)) x f (subst (λ (l : List (ℕ × Bool)). Contains l x) (sym (stars.listed.lists (at v))) h) e

    forwards : f ≡ (segment ks one.place).0 → IsAmong ks (star_at parts members (at v)) f
    forwards e = in_star (one.place, true) (sym e) (listed_start at ks (at v) one.place (length ks) one.within (ap at (sym start ∙ ap (λ (g : Edge). g.0) e)))

    backwards : f ≡ back (segment ks one.place).0 → IsAmong ks (star_at parts members (at v)) f
    backwards e = in_star (one.place, false) (sym e) (listed_end at ks (at v) one.place (length ks) one.within (ap at (sym start ∙ ap (λ (g : Edge). g.0) e)))
