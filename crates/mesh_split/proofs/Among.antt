-- Lemmas over lists: what is a split of some of the edges is one of all.
use Rattle.std.proofs.Common.{◌≡◌, ⊎_elim, Bool, true, false, ◌&&◌, ◌||◌, not, sym, ◌∙◌, ap, refl, ℕ, zero, suc, ◌<◌, arith, List, [], ◌∷◌, ◌++◌, length, get_or}
use Rattle.std.proofs.lemmas.Bool.{cases_Bool, or_right, true≢false}
use Rattle.std.proofs.lemmas.List.Elements.{All-weaker}
use Rattle.mesh_plane.specs.Plane.{Edge}
use Rattle.mesh_lattice.specs.Clean.{IsProper}
use Rattle.mesh_lattice.specs.Split.{same_ends, occurs, EdgeSplit, split_by, after, IsLegal, no_cut, split}
use Rattle.mesh_lattice.proofs.Ends.{ends_self}
use Rattle.mesh_lattice.proofs.Keys.{occurs_ends}
use Rattle.mesh_lattice.proofs.Splits.{occurs_append, occurs_cut}
use Rattle.mesh_split.specs.Counting.{CountsAtMost}
use Rattle.mesh_store.specs.Steps.{AreAmong}
use Rattle.mesh_store.specs.Witnesses.{forward}
use Rattle.mesh_split.specs.declared.count.SplitCount.{SplitCount}
use Rattle.mesh_split.proofs.Forward.{itself}

pub among_none : (es : List Edge) → AreAmong [] es
among_none es e o = absurd (true≢false (sym o))

-- one more of the edges, the lesser end first
pub among_pushed : (es fs : List Edge) (i : ℕ) (d : Edge) → i < length fs → AreAmong es fs → AreAmong (es ++ forward (get_or fs i d) ∷ []) fs
among_pushed es fs i d h among e o =
    let f = get_or fs i d in
    ⊎_elim
    (λ (t : occurs e es ≡ true). among e t)
    (λ (n : occurs e es ≡ false).
    let same : same_ends e (forward f) ≡ true =
    or_none (same_ends e (forward f)) (ap (λ (b : Bool). b || (same_ends e (forward f) || false)) (sym n) ∙ sym (occurs_append e es (forward f ∷ [])) ∙ o) in
    occurs_ends e (forward f) fs same ∙ occurs_ends (forward f) f fs (itself f) ∙ stands fs i h)
    (cases_Bool (occurs e es))
  where
    or_none : (b : Bool) → (b || false) ≡ true → b ≡ true
    or_none true h = refl
    or_none false h = h

    stands : (fs : List Edge) (i : ℕ) → i < length fs → occurs (get_or fs i d) fs ≡ true
    stands [] i h = absurd (omega arith)
    stands (f ∷ fs) zero h = ap (λ (b : Bool). b || occurs f fs) (ends_self f)
    stands (f ∷ fs) (suc i) h = or_right (same_ends (get_or fs i d) f) (occurs (get_or fs i d) fs) (stands fs i (omega arith))

pub proper_among : (es fs : List Edge) → AreAmong es fs → IsProper fs → IsProper es
proper_among es fs among proper e o = proper e (among e o)

-- ---- splits keep that

more : (a b c d n x : Bool) → (a ≡ true → c ≡ true) → (b ≡ true → d ≡ true) → ((a && n) || (b && x)) ≡ true → ((c && n) || (d && x)) ≡ true
more true true c d n x f g h = (λ i. (f refl i && n) || (g refl i && x)) ∙ h
more true false c d true x f g h = λ i. (f refl i && true) || (d && x)
more true false c d false x f g h = absurd (true≢false (sym h))
more false true c d n true f g h = (λ i. (c && n) || (g refl i && true)) ∙ or_right (c && n) true refl
more false true c d n false f g h = absurd (true≢false (sym h))
more false false c d n x f g h = absurd (true≢false (sym h))

among_cut : (k : EdgeSplit) (es fs : List Edge) → AreAmong es fs → AreAmong (split_by k es) (split_by k fs)
among_cut k es fs among q o =
    occurs_cut q k.ends k.at fs
    ∙ more (occurs q es) (occurs k.ends es) (occurs q fs) (occurs k.ends fs) (not (same_ends q k.ends)) (same_ends q (k.ends.0, k.at) || same_ends q (k.at, k.ends.1))
    (among q) (among k.ends) (sym (occurs_cut q k.ends k.at es) ∙ o)

among_after : (ks : List EdgeSplit) (es fs : List Edge) → AreAmong es fs → AreAmong (after ks es) (after ks fs)
among_after [] es fs among = among
among_after (k ∷ ks) es fs among = among_cut k (after ks es) (after ks fs) (among_after ks es fs among)

legal_among : (es fs : List Edge) → AreAmong es fs → (ks : List EdgeSplit) → IsLegal es ks → IsLegal fs ks
legal_among es fs among ks legal = by legal among
  where
    by : {es : List Edge} {ks : List EdgeSplit} → IsLegal es ks → AreAmong es fs → IsLegal fs ks
    by no_cut among = no_cut
    by (split {given} {ks} {e} {f} {c} l x y m) among =
        split (by l among) (among_after ks given fs among e x) (among_after ks given fs among f y) m

pub counts_among : (n : ℕ) (es fs : List Edge) → AreAmong es fs → (old new : SplitCount) → CountsAtMost n es old new → CountsAtMost n fs old new
counts_among n es fs among old new c = record {
  attempts = c.attempts;
  few = c.few;
  legal = All-weaker (IsLegal es) (IsLegal fs) (legal_among es fs among) c.attempts c.legal;
  sum = c.sum;
}
