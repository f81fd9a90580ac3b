-- Lemmas over counted segments: one more of them merged with others, and those that splits make of edges.
use Rattle.std.proofs.Common.{◌≡◌, ⊎_elim, ℕ, ◌<◌, Bool, true, false, cond, not, ◌&&◌, ◌||◌, List, [], ◌∷◌, ◌++◌, length, get_or, set, refl, sym, ◌∙◌, ap, arith, append_assoc}
use Rattle.std.specs.Prelude.{ℤ, pos, ◌+ℤ◌, ◌*ℤ◌, ◌≤ℤ◌}
use Rattle.std.proofs.lemmas.Bool.{cases_Bool, false≢true, or_cases, or_parts}
use Rattle.std.proofs.lemmas.Int.{ints}
use Rattle.std.proofs.lemmas.List.{map-append}
use Rattle.mesh_plane.specs.Plane.{Point, Edge}
use Rattle.mesh_plane.specs.Winding.{sum_of}
use Rattle.mesh_plane.proofs.Sums.{sum_of_append}
use Rattle.mesh_plane.proofs.Whole.{add_mul, linear, mul_add, mul_assoc, mul_zero}
use Rattle.mesh_lattice.specs.Clean.{IsProper}
use Rattle.mesh_lattice.specs.Counted.{along, bit, counted_net, net, times, Counted, IsCountOf}
use Rattle.mesh_plane.specs.Winding.{same_point}
use Rattle.mesh_lattice.specs.Split.{after, add_split, is_end, occurs, path, same_ends, split_by, EdgeSplit, IsLegal, no_cut, split}
use Rattle.mesh_lattice.proofs.Counts.{bit_least, bit_none, times_least}
use Rattle.mesh_lattice.proofs.Each.{Each}
use Rattle.mesh_lattice.proofs.Ends.{ends_along, ends_sym}
use Rattle.mesh_lattice.proofs.KeptBySplits.{after_append, after_none}
use Rattle.mesh_lattice.proofs.SoundSplits.{after_proper, legal_sound}
use Rattle.mesh_lattice.proofs.Splits.{change, net_cut, occurs_append, occurs_cut}
use Rattle.mesh_points.proofs.Counting.{sum_of_set, times_at, times_none}
use Rattle.mesh_paths.specs.Private.Merging.{CountAlike}
use Rattle.mesh_paths.specs.Pieces.{alike, ends_in, segments_of, AreMergedOf, AreReached}

-- ---- one segment more

occurs_more : (q : Edge) (all : List Counted) (g : Counted) → occurs q (ends_in (all ++ g ∷ [])) ≡ (occurs q (ends_in all) || same_ends q g.0)
occurs_more q all g = ap (occurs q) (map-append (λ (k : Counted). k.0) all (g ∷ [])) ∙ (occurs_append q (ends_in all) (g.0 ∷ []) ∙ ap (λ (b : Bool). occurs q (ends_in all) || b) (or_false (same_ends q g.0)))
  where
    or_false : (b : Bool) → (b || false) ≡ b
    or_false true = refl
    or_false false = refl

net_more : (q : Edge) (all : List Counted) (g : Counted) → counted_net q (all ++ g ∷ []) ≡ counted_net q all +ℤ (g.1 *ℤ along q g.0)
net_more q all g = omega (arith, linear, sum_of_append (λ (k : Counted). k.1 *ℤ along q k.0) all (g ∷ []))

raised_bit : (o s : Bool) (t : ℤ) → t ≡ bit o → bit s ≤ℤ t → t ≡ bit (o || s)
raised_bit true s t h l = h
raised_bit false true t h l = absurd (omega (arith, ints))
raised_bit false false t h l = h

new_bit : (o s : Bool) (t : ℤ) → t ≡ bit o → (s ≡ true → t ≡ pos 0) → t +ℤ bit s ≡ bit (o || s)
new_bit true true t h n = absurd (omega (arith, ints, n refl))
new_bit true false t h n = omega (arith, ints)
new_bit false true t h n = omega (arith, ints)
new_bit false false t h n = omega (arith, ints)

-- its count is added to that of the segment with its ends
pub merged_raised : (all ks : List Counted) (g e d : Counted) (k : ℕ) (m : ℤ) → AreMergedOf all ks → CountAlike g e → k < length ks
    → (get_or ks k d).0 ≡ e.0 → m ≡ (get_or ks k d).1 +ℤ e.1 → AreMergedOf (all ++ g ∷ []) (set ks k (e.0, m))
merged_raised all ks g e d k m is alike here same sum = record { once = once; counts = counts }
  where
    own : (q : Edge) → bit (same_ends q (get_or ks k d).0) ≡ bit (same_ends q e.0)
    own q = ap (λ (x : Edge). bit (same_ends q x)) same

    once : (q : Edge) → times q (set ks k (e.0, m)) ≡ bit (occurs q (ends_in (all ++ g ∷ [])))
    once q =
        let kept : times q (set ks k (e.0, m)) ≡ times q ks = omega (arith, linear, own q, sum_of_set (λ (x : Counted). bit (same_ends q x.0)) ks k (e.0, m) d here) in
        let least : bit (same_ends q g.0) ≤ℤ times q ks = omega (arith, linear, own q, times_at q ks k d here, ap bit (alike.ends q)) in
        kept ∙ (raised_bit (occurs q (ends_in all)) (same_ends q g.0) (times q ks) (is.once q) least ∙ ap bit (sym (occurs_more q all g)))

    counts : (q : Edge) → counted_net q (set ks k (e.0, m)) ≡ counted_net q (all ++ g ∷ [])
    counts q =
        let was : (get_or ks k d).1 *ℤ along q (get_or ks k d).0 ≡ (get_or ks k d).1 *ℤ along q e.0 = ap (λ (x : Edge). (get_or ks k d).1 *ℤ along q x) same in
        let parted : m *ℤ along q e.0 ≡ ((get_or ks k d).1 *ℤ along q e.0) +ℤ (e.1 *ℤ along q e.0) = ap (λ (x : ℤ). x *ℤ along q e.0) sum ∙ add_mul (get_or ks k d).1 e.1 (along q e.0) in
        omega (arith, linear, was, parted, sum_of_set (λ (x : Counted). x.1 *ℤ along q x.0) ks k (e.0, m) d here, alike.net q, is.counts q, net_more q all g)

-- it is put in, since its ends do not stand
pub merged_new : (all ks : List Counted) (g e d : Counted) → AreMergedOf all ks → CountAlike g e
    → ((k : ℕ) → k < length ks → same_ends e.0 (get_or ks k d).0 ≡ false) → AreMergedOf (all ++ g ∷ []) (ks ++ e ∷ [])
merged_new all ks g e d is alike absent = record { once = once; counts = counts }
  where
    once : (q : Edge) → times q (ks ++ e ∷ []) ≡ bit (occurs q (ends_in (all ++ g ∷ [])))
    once q =
        let none : same_ends q g.0 ≡ true → times q ks ≡ pos 0 = λ h.
        times_none q ks d (λ k l. ends_sym q (get_or ks k d).0 ∙ (ends_along (get_or ks k d).0 q e.0 (alike.ends q ∙ h) ∙ (ends_sym (get_or ks k d).0 e.0 ∙ absent k l))) in
        let more : times q (ks ++ e ∷ []) ≡ times q ks +ℤ bit (same_ends q g.0) = omega (arith, linear, sum_of_append (λ (x : Counted). bit (same_ends q x.0)) ks (e ∷ []), ap bit (alike.ends q)) in
        more ∙ (new_bit (occurs q (ends_in all)) (same_ends q g.0) (times q ks) (is.once q) none ∙ ap bit (sym (occurs_more q all g)))

    counts : (q : Edge) → counted_net q (ks ++ e ∷ []) ≡ counted_net q (all ++ g ∷ [])
    counts q = omega (arith, linear, sum_of_append (λ (x : Counted). x.1 *ℤ along q x.0) ks (e ∷ []), alike.net q, is.counts q, net_more q all g)

-- ---- what splits make of counted edges

alike_net : (q : Edge) (es : List Edge) (n : ℤ) → counted_net q (alike es n) ≡ n *ℤ net q es
alike_net q [] n = sym (mul_zero n)
alike_net q (e ∷ es) n = omega (arith, linear, mul_add n (along q e) (net q es), alike_net q es n)

alike_ends : (es : List Edge) (n : ℤ) → ends_in (alike es n) ≡ es
alike_ends [] n = refl
alike_ends (e ∷ es) n = ap (λ (l : List Edge). e ∷ l) (alike_ends es n)

-- the net count of what edges have become
segments_net : (q : Edge) (splits : List EdgeSplit) (ks : List Counted) → counted_net q (segments_of splits ks) ≡ sum_of (λ (k : Counted). k.1 *ℤ net q (path splits k.0)) ks
segments_net q splits [] = refl
segments_net q splits (k ∷ ks) =
    omega (arith, linear, sum_of_append (λ (x : Counted). x.1 *ℤ along q x.0) (alike (path splits k.0) k.1) (segments_of splits ks), alike_net q (path splits k.0) k.1, segments_net q splits ks)

-- splits of proper segments
abbrev pub IsProperSplit : EdgeSplit → Type 0
IsProperSplit s = same_point s.ends.0 s.ends.1 ≡ false

pub legal_proper : (es : List Edge) (splits : List EdgeSplit) → IsProper es → IsLegal es splits → Each IsProperSplit splits
legal_proper es splits proper legal = by legal proper
  where
    more : (e : Edge) (c : Point) (ss : List EdgeSplit) → same_point e.0 e.1 ≡ false → Each IsProperSplit ss → Each IsProperSplit (add_split e c ss)
    more e c ss h k = choice (is_end c e) k
      where
        choice : (b : Bool) → Each IsProperSplit ss → Each IsProperSplit (cond b ss ((record { ends = e; at = c }) ∷ ss))
        choice true k = k
        choice false k = (h, k)

    by : {es : List Edge} {splits : List EdgeSplit} → IsLegal es splits → IsProper es → Each IsProperSplit splits
    by no_cut h = tt
    by (split {given} {ks} {e} {f} {c} l x y m) h =
        let all : IsProper (after ks given) = after_proper ks (legal_sound given ks l) given h in
        more f c (add_split e c ks) (all f y) (more e c ks (all e x) (by l h))

-- a cut of all
cut_sum : (q s : Edge) (c : Point) (paths : Counted → List Edge) (ks : List Counted) → same_point s.0 s.1 ≡ false
    → sum_of (λ (k : Counted). k.1 *ℤ net q (split_by (record { ends = s; at = c }) (paths k))) ks
    ≡ sum_of (λ (k : Counted). k.1 *ℤ net q (paths k)) ks +ℤ (sum_of (λ (k : Counted). k.1 *ℤ net s (paths k)) ks *ℤ change s c q)
cut_sum q s c paths [] proper = omega (arith, ints)
cut_sum q s c paths (k ∷ ks) proper =
    let own : k.1 *ℤ net q (split_by (record { ends = s; at = c }) (paths k)) ≡ (k.1 *ℤ net q (paths k)) +ℤ ((k.1 *ℤ net s (paths k)) *ℤ change s c q) =
    ap (λ (x : ℤ). k.1 *ℤ x) (net_cut q s c (paths k) proper) ∙ spread k.1 (net q (paths k)) (net s (paths k)) (change s c q) in
    omega (arith, linear, own, cut_sum q s c paths ks proper, add_mul (k.1 *ℤ net s (paths k)) (sum_of (λ (x : Counted). x.1 *ℤ net s (paths x)) ks) (change s c q))
  where
    spread : (a b d e : ℤ) → a *ℤ (b +ℤ (d *ℤ e)) ≡ (a *ℤ b) +ℤ ((a *ℤ d) *ℤ e)
    spread a b d e = mul_add a b (d *ℤ e) ∙ ap (λ (x : ℤ). (a *ℤ b) +ℤ x) (sym (mul_assoc a d e))

sum_start : (q : Edge) (ks : List Counted) → sum_of (λ (k : Counted). k.1 *ℤ net q (k.0 ∷ [])) ks ≡ counted_net q ks
sum_start q [] = refl
sum_start q (k ∷ ks) = (λ i. (k.1 *ℤ plus_zero (along q k.0) i) +ℤ sum_start q ks i)
  where
    plus_zero : (a : ℤ) → a +ℤ pos 0 ≡ a
    plus_zero a = omega (arith, ints)

after_net : (given : List Edge) (ks : List Counted) (splits : List EdgeSplit) → Each IsProperSplit splits → ((q : Edge) → counted_net q ks ≡ net q given) → (q : Edge)
    → sum_of (λ (k : Counted). k.1 *ℤ net q (path splits k.0)) ks ≡ net q (after splits given)
after_net given ks [] proper h q = sum_start q ks ∙ h q
after_net given ks (s ∷ splits) proper h q =
    cut_sum q s.ends s.at (λ (k : Counted). path splits k.0) ks proper.0
    ∙ ((λ i. after_net given ks splits proper.1 h q i +ℤ (after_net given ks splits proper.1 h s.ends i *ℤ change s.ends s.at q))
    ∙ sym (net_cut q s.ends s.at (after splits given) proper.0))

-- ---- which segments stand

-- the same segments stand in two lists
abbrev pub StandAlike : List Edge → List Edge → Type 0
StandAlike es fs = (q : Edge) → occurs q es ≡ occurs q fs

pub after_alike : (es fs : List Edge) (splits : List EdgeSplit) → StandAlike es fs → StandAlike (after splits es) (after splits fs)
after_alike es fs [] h q = h q
after_alike es fs (s ∷ splits) h q =
    occurs_cut q s.ends s.at (after splits es)
    ∙ ((λ i. (after_alike es fs splits h q i && not (same_ends q s.ends)) || (after_alike es fs splits h s.ends i && (same_ends q (s.ends.0, s.at) || same_ends q (s.at, s.ends.1))))
    ∙ sym (occurs_cut q s.ends s.at (after splits fs)))

pub legal_alike : {es : List Edge} {splits : List EdgeSplit} → IsLegal es splits → (fs : List Edge) → StandAlike fs es → IsLegal fs splits
legal_alike no_cut fs h = no_cut
legal_alike (split {given} {ks} {e} {f} {c} l x y m) fs h = split (legal_alike l fs h) (after_alike fs given ks h e ∙ x) (after_alike fs given ks h f ∙ y) m

times_absent : (q : Edge) (ks : List Counted) → occurs q (ends_in ks) ≡ false → times q ks ≡ pos 0
times_absent q [] h = refl
times_absent q (k ∷ ks) h =
    let p = or_parts (same_ends q k.0) (occurs q (ends_in ks)) h in
    omega (arith, ints, ap bit p.0, times_absent q ks p.1)

times_present : (q : Edge) (ks : List Counted) → occurs q (ends_in ks) ≡ true → pos 1 ≤ℤ times q ks
times_present q [] h = absurd (false≢true h)
times_present q (k ∷ ks) h =
    ⊎_elim (λ (t : same_ends q k.0 ≡ true). omega (arith, ints, ap bit t, times_least q ks)) (λ (t : occurs q (ends_in ks) ≡ true). omega (arith, ints, bit_least (same_ends q k.0), times_present q ks t))
    (or_cases (same_ends q k.0) (occurs q (ends_in ks)) h)

pub count_alike : (given : List Edge) (ks : List Counted) → IsCountOf given ks → StandAlike given (ends_in ks)
count_alike given ks is q =
    ⊎_elim
    (λ (t : occurs q (ends_in ks) ≡ true). bit_one (occurs q given) (omega (arith, ints, times_present q ks t, is.once q)) ∙ sym t)
    (λ (f : occurs q (ends_in ks) ≡ false). bit_none (occurs q given) (sym (is.once q) ∙ times_absent q ks f) ∙ sym f)
    (cases_Bool (occurs q (ends_in ks)))
  where
    bit_one : (b : Bool) → pos 1 ≤ℤ bit b → b ≡ true
    bit_one true h = refl
    bit_one false h = absurd (omega (arith, ints))

segments_ends : (splits : List EdgeSplit) (ks : List Counted) → ends_in (segments_of splits ks) ≡ after splits (ends_in ks)
segments_ends splits [] = sym (after_none splits)
segments_ends splits (k ∷ ks) =
    map-append (λ (x : Counted). x.0) (alike (path splits k.0) k.1) (segments_of splits ks)
    ∙ ((λ i. alike_ends (path splits k.0) k.1 i ++ segments_ends splits ks i) ∙ sym (after_append splits (k.0 ∷ []) (ends_in ks)))

-- ---- all together

pub reached : (given : List Edge) (ks list : List Counted) (splits : List EdgeSplit) → IsProper given → IsCountOf given ks → IsLegal (ends_in ks) splits → AreMergedOf (segments_of splits ks) list
    → AreReached given splits list
reached given ks list splits proper count legal merged = record {
  legal = moved;
  count = record {
    once = λ q. merged.once q ∙ ap bit (ap (occurs q) (segments_ends splits ks) ∙ sym (after_alike given (ends_in ks) splits (count_alike given ks count) q));
    counts = λ q. merged.counts q ∙ (segments_net q splits ks ∙ after_net given ks splits (legal_proper given splits proper moved) count.counts q);
  };
}
  where
    moved : IsLegal given splits
    moved = legal_alike legal given (count_alike given ks count)

-- segments of one edge more
pub segments_more : (splits : List EdgeSplit) (ks : List Counted) (k : Counted) → segments_of splits (ks ++ k ∷ []) ≡ segments_of splits ks ++ alike (path splits k.0) k.1
segments_more splits [] k = append_none (alike (path splits k.0) k.1)
  where
    append_none : (xs : List Counted) → xs ++ [] ≡ xs
    append_none [] = refl
    append_none (x ∷ xs) = ap (λ (l : List Counted). x ∷ l) (append_none xs)
segments_more splits (j ∷ ks) k =
    ap (λ (l : List Counted). alike (path splits j.0) j.1 ++ l) (segments_more splits ks k)
    ∙ sym (append_assoc (alike (path splits j.0) j.1) (segments_of splits ks) (alike (path splits k.0) k.1))
