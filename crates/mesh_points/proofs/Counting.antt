-- Lemmas over counted segments: one edge more.
use Rattle.std.proofs.Common.{◌≡◌, ℕ, ◌-◌, ◌<◌, ◌≤◌, ◌^◌, Bool, true, false, ◌||◌, List, [], ◌∷◌, ◌++◌, length, get_or, set, zero, suc, refl, sym, ◌∙◌, ap, subst, arith}
use Rattle.std.specs.Prelude.{ℤ, pos, ◌+ℤ◌, ◌*ℤ◌, ◌≤ℤ◌, unsigned_abs}
use Rattle.std.proofs.lemmas.Int.{ints, to_z-of_z}
use mir.Syntax.{w32}
use mir.Val.{SFits, to_z, of_z}
use Rattle.mesh_plane.specs.Plane.{Edge}
use Rattle.mesh_plane.specs.Winding.{sum_of}
use Rattle.mesh_plane.proofs.Sums.{sum_of_append}
use Rattle.mesh_plane.proofs.Whole.{add_mul, linear}
use Rattle.mesh_lattice.specs.Split.{same_ends, occurs}
use Rattle.mesh_lattice.specs.Counted.{along, bit, counted_net, net, times, Counted, IsCountOf}
use Rattle.mesh_lattice.proofs.Counts.{bit_least, times_least}
use Rattle.mesh_lattice.proofs.Ends.{ends_along, ends_sym}
use Rattle.mesh_lattice.proofs.Splits.{occurs_append}
use Rattle.mesh_points.specs.Edges.{IsCountedAs}

-- one element of a list is replaced
pub sum_of_set : {A : Type 0} (f : A → ℤ) (xs : List A) (k : ℕ) (y d : A) → k < length xs → sum_of f (set xs k y) +ℤ f (get_or xs k d) ≡ sum_of f xs +ℤ f y
sum_of_set f [] k y d h = absurd (omega arith)
sum_of_set f (x ∷ xs) zero y d h = omega (arith, linear)
sum_of_set f (x ∷ xs) (suc k) y d h = omega (arith, linear, sum_of_set f xs k y d (omega arith))

-- how often ends stand, by one place and by all
pub times_at : (q : Edge) (ks : List Counted) (k : ℕ) (d : Counted) → k < length ks → bit (same_ends q (get_or ks k d).0) ≤ℤ times q ks
times_at q [] k d h = absurd (omega arith)
times_at q (x ∷ ks) zero d h = omega (arith, linear, times_least q ks)
times_at q (x ∷ ks) (suc k) d h = omega (arith, linear, bit_least (same_ends q x.0), times_at q ks k d (omega arith))

pub times_none : (q : Edge) (ks : List Counted) (d : Counted) → ((k : ℕ) → k < length ks → same_ends q (get_or ks k d).0 ≡ false) → times q ks ≡ pos 0
times_none q [] d h = refl
times_none q (x ∷ ks) d h =
    let first : same_ends q x.0 ≡ false = h zero (omega arith) in
    let own : bit (same_ends q x.0) ≡ pos 0 = ap bit first in
    omega (arith, linear, times_none q ks d (λ k l. h (suc k) (omega arith)))

-- one edge more
occurs_more : (q : Edge) (es : List Edge) (g : Edge) → occurs q (es ++ g ∷ []) ≡ (occurs q es || same_ends q g)
occurs_more q es g = occurs_append q es (g ∷ []) ∙ ap (λ (b : Bool). occurs q es || b) (or_false (same_ends q g))
  where
    or_false : (b : Bool) → (b || false) ≡ b
    or_false true = refl
    or_false false = refl

net_more : (q : Edge) (es : List Edge) (g : Edge) → net q (es ++ g ∷ []) ≡ net q es +ℤ along q g
net_more q es g = omega (arith, linear, sum_of_append (along q) es (g ∷ []))

raised_bit : (o s : Bool) (t : ℤ) → t ≡ bit o → bit s ≤ℤ t → t ≡ bit (o || s)
raised_bit true s t h l = h
raised_bit false true t h l = absurd (omega (arith, ints))
raised_bit false false t h l = h

new_bit : (o s : Bool) (t : ℤ) → t ≡ bit o → (s ≡ true → t ≡ pos 0) → t +ℤ bit s ≡ bit (o || s)
new_bit true true t h n = absurd (omega (arith, ints, n refl))
new_bit true false t h n = omega (arith, ints)
new_bit false true t h n = omega (arith, ints)
new_bit false false t h n = omega (arith, ints)

-- its count is added to that of the segment with its ends
pub count_raised : (es : List Edge) (ks : List Counted) (g : Edge) (e d : Counted) (k : ℕ) (m : ℤ) → IsCountOf es ks → IsCountedAs g e → k < length ks
    → (get_or ks k d).0 ≡ e.0 → m ≡ (get_or ks k d).1 +ℤ e.1 → IsCountOf (es ++ g ∷ []) (set ks k (e.0, m))
count_raised es ks g e d k m is alike here same sum = record { once = once; counts = counts }
  where
    own : (q : Edge) → bit (same_ends q (get_or ks k d).0) ≡ bit (same_ends q e.0)
    own q = ap (λ (x : Edge). bit (same_ends q x)) same

    once : (q : Edge) → times q (set ks k (e.0, m)) ≡ bit (occurs q (es ++ g ∷ []))
    once q =
        let kept : times q (set ks k (e.0, m)) ≡ times q ks = omega (arith, linear, own q, sum_of_set (λ (x : Counted). bit (same_ends q x.0)) ks k (e.0, m) d here) in
        let least : bit (same_ends q g) ≤ℤ times q ks = omega (arith, linear, own q, times_at q ks k d here, ap bit (alike.ends q)) in
        kept ∙ (raised_bit (occurs q es) (same_ends q g) (times q ks) (is.once q) least ∙ ap bit (sym (occurs_more q es g)))

    counts : (q : Edge) → counted_net q (set ks k (e.0, m)) ≡ net q (es ++ g ∷ [])
    counts q =
        let was : (get_or ks k d).1 *ℤ along q (get_or ks k d).0 ≡ (get_or ks k d).1 *ℤ along q e.0 = ap (λ (x : Edge). (get_or ks k d).1 *ℤ along q x) same in
        let parted : m *ℤ along q e.0 ≡ ((get_or ks k d).1 *ℤ along q e.0) +ℤ (e.1 *ℤ along q e.0) = ap (λ (x : ℤ). x *ℤ along q e.0) sum ∙ add_mul (get_or ks k d).1 e.1 (along q e.0) in
        omega (arith, linear, was, parted, sum_of_set (λ (x : Counted). x.1 *ℤ along q x.0) ks k (e.0, m) d here, alike.net q, is.counts q, net_more q es g)

-- it is put in, since its ends do not stand
pub count_new : (es : List Edge) (ks : List Counted) (g : Edge) (e d : Counted) → IsCountOf es ks → IsCountedAs g e
    → ((k : ℕ) → k < length ks → same_ends e.0 (get_or ks k d).0 ≡ false) → IsCountOf (es ++ g ∷ []) (ks ++ e ∷ [])
count_new es ks g e d is alike absent = record { once = once; counts = counts }
  where
    once : (q : Edge) → times q (ks ++ e ∷ []) ≡ bit (occurs q (es ++ g ∷ []))
    once q =
        let none : same_ends q g ≡ true → times q ks ≡ pos 0 = λ h.
        times_none q ks d (λ k l. ends_sym q (get_or ks k d).0 ∙ (ends_along (get_or ks k d).0 q e.0 (alike.ends q ∙ h) ∙ (ends_sym (get_or ks k d).0 e.0 ∙ absent k l))) in
        let more : times q (ks ++ e ∷ []) ≡ times q ks +ℤ bit (same_ends q g) = omega (arith, linear, sum_of_append (λ (x : Counted). bit (same_ends q x.0)) ks (e ∷ []), ap bit (alike.ends q)) in
        more ∙ (new_bit (occurs q es) (same_ends q g) (times q ks) (is.once q) none ∙ ap bit (sym (occurs_more q es g)))

    counts : (q : Edge) → counted_net q (ks ++ e ∷ []) ≡ net q (es ++ g ∷ [])
    counts q = omega (arith, linear, sum_of_append (λ (x : Counted). x.1 *ℤ along q x.0) ks (e ∷ []), alike.net q, is.counts q, net_more q es g)

-- ---- counts of 32 bits

pub fits_within : (a : ℤ) → unsigned_abs a ≤ 2 ^ 31 - 1 → SFits w32 a
fits_within a h = omega (arith, ints)

pub sum_within : (a b : ℤ) → unsigned_abs a ≤ 2 ^ 31 - 2 → unsigned_abs b ≤ 1 → unsigned_abs (a +ℤ b) ≤ 2 ^ 31 - 1
sum_within a b h k = omega (arith, ints)

pub kept : (a b : ℤ) → unsigned_abs a ≤ 2 ^ 31 - 2 → unsigned_abs b ≤ 1 → to_z w32 (of_z w32 a) +ℤ to_z w32 (of_z w32 b) ≡ a +ℤ b
kept a b h k =
    let fa : SFits w32 a = fits_within a (omega arith) in
    let fb : SFits w32 b = fits_within b (omega arith) in
    rw (to_z-of_z w32 a fa, to_z-of_z w32 b fb)

pub sum_fits : (a b : ℤ) → unsigned_abs a ≤ 2 ^ 31 - 2 → unsigned_abs b ≤ 1 → SFits w32 (to_z w32 (of_z w32 a) +ℤ to_z w32 (of_z w32 b))
sum_fits a b h k = subst (SFits w32) (sym (kept a b h k)) (fits_within (a +ℤ b) (sum_within a b h k))

pub sum_kept : (a b : ℤ) → unsigned_abs a ≤ 2 ^ 31 - 2 → unsigned_abs b ≤ 1
    → to_z w32 (of_z w32 (to_z w32 (of_z w32 a) +ℤ to_z w32 (of_z w32 b))) ≡ a +ℤ b
sum_kept a b h k = to_z-of_z w32 (to_z w32 (of_z w32 a) +ℤ to_z w32 (of_z w32 b)) (sum_fits a b h k) ∙ kept a b h k
