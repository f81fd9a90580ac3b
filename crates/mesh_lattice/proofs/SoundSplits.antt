-- Lemmas over points and lists: the splits of legal splits lie in the boxes of what they cut, and leave no edge without length.
use Rattle.std.proofs.Common.{◌≡◌, ◌⊎◌, inl, inr, ⊎_elim, Bool, true, false, cond, List, [], ◌∷◌, refl, sym, ◌∙◌, ap, subst}
use Rattle.std.proofs.lemmas.Bool.{or_cases, both_ways, false≢true}
use Rattle.mesh_plane.specs.Plane.{Point, Edge}
use Rattle.mesh_plane.specs.Winding.{same_point}
use Rattle.mesh_lattice.specs.Clean.{IsProper}
use Rattle.mesh_lattice.specs.Split.{back, same_ends, occurs, is_end, IsInBox, EdgeSplit, split_edge, split_by, after, add_split, IsLegal, no_cut, split}
use Rattle.mesh_lattice.proofs.Ends.{decides_ends, decides_end}
use Rattle.mesh_lattice.proofs.Boxes.{meets_box}
use Rattle.mesh_lattice.proofs.Each.{Each, each_more, each_append, proper_of, each_of}
use Rattle.mesh_lattice.proofs.KeptBySplits.{Boxed}
use Rattle.mesh_plane.proofs.Comparing.{decides_point}

-- a cut's point lies in the box of what it splits, and is none of its ends
pub record IsSound (k : EdgeSplit) : Type 0 where
  pub boxed : IsInBox k.ends k.at
  pub inner : is_end k.at k.ends ≡ false

add_sound : (e : Edge) (c : Point) (ks : List EdgeSplit) → IsInBox e c → Each IsSound ks → Each IsSound (add_split e c ks)
add_sound e c ks box h = by (is_end c e) refl
  where
    by : (b : Bool) → is_end c e ≡ b → Each IsSound (cond b ks ((record { ends = e; at = c }) ∷ ks))
    by true t = h
    by false t = (record { boxed = box; inner = t }, h)

pub legal_sound : (es : List Edge) (ks : List EdgeSplit) → IsLegal es ks → Each IsSound ks
legal_sound es ks legal = by legal
  where
    by : {es : List Edge} {ks : List EdgeSplit} → IsLegal es ks → Each IsSound ks
    by no_cut = tt
    by (split {given} {ks} {e} {f} {c} l x y m) =
        let box = meets_box m in
        add_sound f c (add_split e c ks) box.1 (add_sound e c ks box.0 (by l))

pub legal_boxed : (es : List Edge) (ks : List EdgeSplit) → IsLegal es ks → Boxed ks
legal_boxed es ks legal = each_more IsSound (λ (k : EdgeSplit). IsInBox k.ends k.at) (λ (k : EdgeSplit) (h : IsSound k). h.boxed) ks (legal_sound es ks legal)

-- ---- no edge without length

-- the two ends of an edge differ
abbrev pub ProperEnds : Edge → Type 0
ProperEnds e = e.0 ≡ e.1 → ⊥

not_an_end : (k : EdgeSplit) (e : Edge) → IsSound k → same_ends e k.ends ≡ true → ((k.at ≡ e.0) ⊎ (k.at ≡ e.1)) → ⊥
not_an_end k e h t ends =
    both_ways (is_end k.at k.ends) h.inner
    ((decides_end k.at k.ends).1
    (⊎_elim
    (λ (x : e ≡ k.ends). subst (λ (d : Edge). (k.at ≡ d.0) ⊎ (k.at ≡ d.1)) x ends)
    (λ (x : e ≡ back k.ends).
    ⊎_elim (λ (y : k.at ≡ e.0). inr (y ∙ ap (λ (d : Edge). d.0) x)) (λ (y : k.at ≡ e.1). inl (y ∙ ap (λ (d : Edge). d.1) x)) ends)
    ((decides_ends e k.ends).0 t)))

cut_proper : (k : EdgeSplit) → IsSound k → (es : List Edge) → Each ProperEnds es → Each ProperEnds (split_by k es)
cut_proper k sound [] h = tt
cut_proper k sound (e ∷ es) h = each_append ProperEnds (split_edge k e) (split_by k es) (by (same_ends e k.ends) refl) (cut_proper k sound es h.1)
  where
    by : (b : Bool) → same_ends e k.ends ≡ b → Each ProperEnds (cond b ((e.0, k.at) ∷ (k.at, e.1) ∷ []) (e ∷ []))
    by true t = ((λ (x : e.0 ≡ k.at). not_an_end k e sound t (inl (sym x))), ((λ (x : k.at ≡ e.1). not_an_end k e sound t (inr x)), tt))
    by false t = (h.0, tt)

pub after_proper_each : (ks : List EdgeSplit) → Each IsSound ks → (es : List Edge) → Each ProperEnds es → Each ProperEnds (after ks es)
after_proper_each [] sound es h = h
after_proper_each (k ∷ ks) sound es h = cut_proper k sound.0 (after ks es) (after_proper_each ks sound.1 es h)

pub proper_each : (es : List Edge) → IsProper es → Each ProperEnds es
proper_each es h = each_of ProperEnds es (λ (e : Edge) (o : occurs e es ≡ true). proper_of es h e o)

pub each_proper : (es : List Edge) → Each ProperEnds es → IsProper es
each_proper es h e o = by (same_point e.0 e.1) refl
  where
    found : (es : List Edge) → Each ProperEnds es → occurs e es ≡ true → e.0 ≡ e.1 → ⊥
    found [] h o same = false≢true o
    found (d ∷ es) h o same =
        ⊎_elim
        (λ (t : same_ends e d ≡ true).
        ⊎_elim
        (λ (x : e ≡ d). h.0 (sym (ap (λ (v : Edge). v.0) x) ∙ (same ∙ ap (λ (v : Edge). v.1) x)))
        (λ (x : e ≡ back d). h.0 (sym (ap (λ (v : Edge). v.1) x) ∙ (sym same ∙ ap (λ (v : Edge). v.0) x)))
        ((decides_ends e d).0 t))
        (λ (t : occurs e es ≡ true). found es h.1 t same)
        (or_cases (same_ends e d) (occurs e es) o)

    by : (b : Bool) → same_point e.0 e.1 ≡ b → same_point e.0 e.1 ≡ false
    by true t = absurd (found es h o ((decides_point e.0 e.1).0 t))
    by false t = t

pub after_proper : (ks : List EdgeSplit) → Each IsSound ks → (es : List Edge) → IsProper es → IsProper (after ks es)
after_proper ks sound es h = each_proper (after ks es) (after_proper_each ks sound es (proper_each es h))
