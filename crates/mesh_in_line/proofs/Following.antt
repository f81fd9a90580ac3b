-- Lemmas over lists: splits that go on from others.
use Rattle.std.proofs.Common.{◌≡◌, Bool, true, false, cond, List, [], ◌∷◌, ◌++◌, refl, sym, ◌∙◌, ap, subst}
use Rattle.mesh_plane.specs.Plane.{Point, Edge}
use Rattle.mesh_lattice.specs.Split.{after, add_split, occurs, is_end, split_by, EdgeSplit, IsLegal, no_cut, split}
use Rattle.mesh_in_line.specs.Laws.{SplittingsGoOn}

pub after_both : (later first : List EdgeSplit) (es : List Edge) → after (later ++ first) es ≡ after later (after first es)
after_both [] first es = refl
after_both (k ∷ ks) first es = ap (split_by k) (after_both ks first es)

add_before : (e : Edge) (c : Point) (later first : List EdgeSplit) → add_split e c (later ++ first) ≡ add_split e c later ++ first
add_before e c later first = by (is_end c e)
  where
    by : (b : Bool) → cond b (later ++ first) ((record { ends = e; at = c }) ∷ (later ++ first)) ≡ cond b later ((record { ends = e; at = c }) ∷ later) ++ first
    by true = refl
    by false = refl

legal_both : {between : List Edge} {ks : List EdgeSplit} → IsLegal between ks → (es : List Edge) (first : List EdgeSplit) → IsLegal es first → between ≡ after first es → IsLegal es (ks ++ first)
legal_both no_cut es first legal h = legal
legal_both (split {given} {ks} {e} {f} {c} l x y m) es first legal h =
    let stands : after (ks ++ first) es ≡ after ks given = after_both ks first es ∙ ap (after ks) (sym h) in
    subst (IsLegal es)
    (ap (add_split f c) (add_before e c ks first) ∙ add_before f c (add_split e c ks) first)
    (split (legal_both l es first legal h) (ap (occurs e) stands ∙ x) (ap (occurs f) stands ∙ y) m)

pub splittings_go_on : SplittingsGoOn
splittings_go_on given first later legal more = record {
  legal = legal_both more given first legal refl;
  same = after_both later first given;
}
