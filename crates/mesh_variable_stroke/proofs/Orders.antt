-- Lemmas over lists: a chain drawn step by step has what it has drawn kind by kind, in another order.
use Rattle.std.proofs.Common.{◌≡◌, List, [], ◌∷◌, ◌++◌, refl, sym, subst, ◌∙◌, ap, append_assoc}
use Rattle.std.specs.Prelude.{Bool, true, false, ◌||◌, if◌then◌else◌, Option, Some, None}
use Rattle.std.specs.List.{flat_map}
use Rattle.std.specs.List.Sorted.{IsPermutation}
use Rattle.std.specs.Option.{option_to_list}
use Rattle.std.proofs.lemmas.List.Sorted.{IsPermutation-refl, IsPermutation-trans, IsPermutation-append, IsPermutation-append_comm, IsPermutation-append_right}
use Rattle.mesh_plane.specs.Plane.{Edge}
use Rattle.mesh_plane.proofs.ClosedLists.{woven, regrouped}
use Rattle.mesh_plane.specs.Turning.{last_of}
use Rattle.mesh_num.specs.Segments.{proper_edges}
use Rattle.mesh_offset.specs.Walks.{pairs}
use Rattle.mesh_offset.proofs.ProperEdges.{proper_append, proper_flat_map}
use Rattle.mesh_offset.proofs.Walks.{woven_through}
use Rattle.mesh_circle.specs.Sections.{Circle, Section}
use Rattle.mesh_variable_stroke.specs.Private.Walks.{last_with}
use Rattle.mesh_variable_stroke.specs.VariableStrokes.{SectionPair, are_butt}
use Rattle.mesh_variable_stroke.specs.declared.chain_end.ChainEnd.{ChainEnd}

-- the sections of steps
abbrev pub listed_sections : List (Option Section) → List Section
listed_sections os = flat_map option_to_list os

module _ {B : Type 0} (side : Section → List B) (start : ChainEnd → Section → List B) (finish : ChainEnd → Section → List B) (joint : SectionPair → List B) (circle : Circle → List B) where
  abbrev pub attached : ChainEnd → Option Section → Section → List B
  attached e None s = start e s
  attached e (Some p) s = joint (p, s)

  abbrev pub part : ChainEnd → Option Section → Option Section → List B
  part e last None = []
  part e last (Some s) = side s ++ attached e last s

  abbrev pub closed_by : Circle → ChainEnd → Bool → ChainEnd → Option Section → List B
  closed_by c e has f (Some s) = finish f s
  closed_by c e has f None = if has || are_butt e f then [] else circle c

  -- a chain from where it stands through its steps, in the order in which it is drawn
  abbrev pub streamed : Circle → ChainEnd → Option Section → Bool → List (Option Section) → ChainEnd → List B
  streamed c e last has [] f = closed_by c e has f last
  streamed c e last has (o ∷ os) f = part e last o ++ streamed c e (last_with last o) true os f

  abbrev pub bare : Circle → ChainEnd → ChainEnd → List (Option Section) → List B
  bare c e f [] = if are_butt e f then [] else circle c
  bare c e f (o ∷ os) = []

  -- the same kind by kind
  abbrev pub by_kind : Circle → ChainEnd → ChainEnd → List (Option Section) → List Section → List B
  by_kind c e f os [] = bare c e f os
  by_kind c e f os (s ∷ ss) = flat_map side (s ∷ ss) ++ (flat_map joint (pairs (s ∷ ss)) ++ (start e s ++ finish f (last_of s ss)))

  -- what comes after a section
  abbrev through : ChainEnd → Section → List Section → List B
  through f p [] = finish f p
  through f p (s ∷ ss) = (side s ++ joint (p, s)) ++ through f s ss

  streamed_on : (c : Circle) (e : ChainEnd) (p : Section) (has : Bool) (os : List (Option Section)) (f : ChainEnd) →
      streamed c e (Some p) has os f ≡ through f p (listed_sections os)
  streamed_on c e p has [] f = refl
  streamed_on c e p has (None ∷ os) f = streamed_on c e p true os f
  streamed_on c e p has (Some s ∷ os) f = ap (λ l. (side s ++ joint (p, s)) ++ l) (streamed_on c e s true os f)

  abbrev first_then : ChainEnd → ChainEnd → List Section → List B
  first_then e f [] = []
  first_then e f (s ∷ ss) = (side s ++ start e s) ++ through f s ss

  streamed_bare : (c : Circle) (e : ChainEnd) (os : List (Option Section)) (f : ChainEnd) →
      streamed c e None true os f ≡ first_then e f (listed_sections os)
  streamed_bare c e [] f = refl
  streamed_bare c e (None ∷ os) f = streamed_bare c e os f
  streamed_bare c e (Some s ∷ os) f = ap (λ l. (side s ++ start e s) ++ l) (streamed_on c e s true os f)

  through_is : (f : ChainEnd) (p : Section) (ss : List Section) (z : Section) →
      through f p ss ≡ woven (λ q s. side s ++ joint (q, s)) (λ c. finish f c.0) p ss z
  through_is f p [] z = refl
  through_is f p (s ∷ ss) z = ap (λ l. (side s ++ joint (p, s)) ++ l) (through_is f s ss z)

  through_permutes : (f : ChainEnd) (p : Section) (ss : List Section) →
      IsPermutation (through f p ss) (flat_map side ss ++ (flat_map joint (pairs (p ∷ ss)) ++ finish f (last_of p ss)))
  through_permutes f p ss =
      rw (through_is f p ss p)
      (woven_through side joint (λ q s. side s ++ joint (q, s)) (λ c. finish f c.0) (λ q s. IsPermutation-refl (side s ++ joint (q, s))) p ss p)

  -- a start that stands before what comes next stands after the joints as well
  first_permutes : (e f : ChainEnd) (s : Section) (ss : List Section) →
      IsPermutation (first_then e f (s ∷ ss)) (flat_map side (s ∷ ss) ++ (flat_map joint (pairs (s ∷ ss)) ++ (start e s ++ finish f (last_of s ss))))
  first_permutes e f s ss =
      let joints = flat_map joint (pairs (s ∷ ss)) in
      let last = finish f (last_of s ss) in
      let a : IsPermutation ((side s ++ start e s) ++ through f s ss) ((side s ++ start e s) ++ (flat_map side ss ++ (joints ++ last))) =
      IsPermutation-append_right (side s ++ start e s) (through f s ss) (flat_map side ss ++ (joints ++ last)) (through_permutes f s ss) in
      let b : IsPermutation ((side s ++ start e s) ++ (flat_map side ss ++ (joints ++ last))) ((side s ++ flat_map side ss) ++ (start e s ++ (joints ++ last))) =
      regrouped (side s) (start e s) (flat_map side ss) (joints ++ last) in
      let swapped : IsPermutation (start e s ++ (joints ++ last)) (joints ++ (start e s ++ last)) =
      subst (λ l. IsPermutation l (joints ++ (start e s ++ last))) (append_assoc (start e s) joints last)
      (subst (λ l. IsPermutation ((start e s ++ joints) ++ last) l) (append_assoc joints (start e s) last)
      (IsPermutation-append (start e s ++ joints) (joints ++ start e s) last last (IsPermutation-append_comm (start e s) joints) (IsPermutation-refl last))) in
      let c : IsPermutation ((side s ++ flat_map side ss) ++ (start e s ++ (joints ++ last))) ((side s ++ flat_map side ss) ++ (joints ++ (start e s ++ last))) =
      IsPermutation-append_right (side s ++ flat_map side ss) (start e s ++ (joints ++ last)) (joints ++ (start e s ++ last)) swapped in
      IsPermutation-trans ((side s ++ start e s) ++ through f s ss) ((side s ++ start e s) ++ (flat_map side ss ++ (joints ++ last)))
      ((side s ++ flat_map side ss) ++ (joints ++ (start e s ++ last))) a
      (IsPermutation-trans ((side s ++ start e s) ++ (flat_map side ss ++ (joints ++ last))) ((side s ++ flat_map side ss) ++ (start e s ++ (joints ++ last)))
      ((side s ++ flat_map side ss) ++ (joints ++ (start e s ++ last))) b c)

  -- a chain step by step is a permutation of it kind by kind
  pub stream_permutes : (c : Circle) (e : ChainEnd) (os : List (Option Section)) (f : ChainEnd) →
      IsPermutation (streamed c e None false os f) (by_kind c e f os (listed_sections os))
  stream_permutes c e [] f = IsPermutation-refl (if are_butt e f then [] else circle c)
  stream_permutes c e (None ∷ os) f = rw (streamed_bare c e os f) (by (listed_sections os))
    where
      by : (ss : List Section) → IsPermutation (first_then e f ss) (by_kind c e f (None ∷ os) ss)
      by [] = IsPermutation-refl []
      by (s ∷ ss) = first_permutes e f s ss
  stream_permutes c e (Some s ∷ os) f = rw (streamed_on c e s true os f) (first_permutes e f s (listed_sections os))

-- ---- what is kept of edges whose ends differ

without_either : (b : Bool) (es : List Edge) → proper_edges (if b then [] else es) ≡ (if b then [] else proper_edges es)
without_either true es = refl
without_either false es = refl

module _ (side : Section → List Edge) (start : ChainEnd → Section → List Edge) (finish : ChainEnd → Section → List Edge) (joint : SectionPair → List Edge) (circle : Circle → List Edge) where
  abbrev side' : Section → List Edge
  side' s = proper_edges (side s)

  abbrev start' : ChainEnd → Section → List Edge
  start' e s = proper_edges (start e s)

  abbrev finish' : ChainEnd → Section → List Edge
  finish' e s = proper_edges (finish e s)

  abbrev joint' : SectionPair → List Edge
  joint' j = proper_edges (joint j)

  abbrev circle' : Circle → List Edge
  circle' c = proper_edges (circle c)

  part_without : (e : ChainEnd) (last o : Option Section) → proper_edges (part side start finish joint circle e last o) ≡ part side' start' finish' joint' circle' e last o
  part_without e last None = refl
  part_without e None (Some s) = proper_append (side s) (start e s)
  part_without e (Some p) (Some s) = proper_append (side s) (joint (p, s))

  closed_without : (c : Circle) (e : ChainEnd) (has : Bool) (f : ChainEnd) (last : Option Section) →
      proper_edges (closed_by side start finish joint circle c e has f last) ≡ closed_by side' start' finish' joint' circle' c e has f last
  closed_without c e has f (Some s) = refl
  closed_without c e has f None = without_either (has || are_butt e f) (circle c)

  stream_without : (c : Circle) (e : ChainEnd) (last : Option Section) (has : Bool) (os : List (Option Section)) (f : ChainEnd) →
      proper_edges (streamed side start finish joint circle c e last has os f) ≡ streamed side' start' finish' joint' circle' c e last has os f
  stream_without c e last has [] f = closed_without c e has f last
  stream_without c e last has (o ∷ os) f =
      proper_append (part side start finish joint circle e last o) (streamed side start finish joint circle c e (last_with last o) true os f)
      ∙ (ap (λ l. l ++ proper_edges (streamed side start finish joint circle c e (last_with last o) true os f)) (part_without e last o)
      ∙ ap (λ l. part side' start' finish' joint' circle' e last o ++ l) (stream_without c e (last_with last o) true os f))

  kinds_without : (c : Circle) (e f : ChainEnd) (os : List (Option Section)) (ss : List Section) →
      proper_edges (by_kind side start finish joint circle c e f os ss) ≡ by_kind side' start' finish' joint' circle' c e f os ss
  kinds_without c e f [] [] = without_either (are_butt e f) (circle c)
  kinds_without c e f (o ∷ os) [] = refl
  kinds_without c e f os (s ∷ ss) =
      proper_append (flat_map side (s ∷ ss)) (flat_map joint (pairs (s ∷ ss)) ++ (start e s ++ finish f (last_of s ss)))
      ∙ (ap (λ l. l ++ proper_edges (flat_map joint (pairs (s ∷ ss)) ++ (start e s ++ finish f (last_of s ss)))) (proper_flat_map side (s ∷ ss))
      ∙ (ap (λ l. flat_map side' (s ∷ ss) ++ l) (proper_append (flat_map joint (pairs (s ∷ ss))) (start e s ++ finish f (last_of s ss)))
      ∙ (ap (λ l. flat_map side' (s ∷ ss) ++ (l ++ proper_edges (start e s ++ finish f (last_of s ss)))) (proper_flat_map joint (pairs (s ∷ ss)))
      ∙ ap (λ l. flat_map side' (s ∷ ss) ++ (flat_map joint' (pairs (s ∷ ss)) ++ l)) (proper_append (start e s) (finish f (last_of s ss))))))

  -- so it is for the edges whose ends differ
  pub proper_permutes : (c : Circle) (e : ChainEnd) (os : List (Option Section)) (f : ChainEnd) →
      IsPermutation (proper_edges (streamed side start finish joint circle c e None false os f)) (proper_edges (by_kind side start finish joint circle c e f os (listed_sections os)))
  proper_permutes c e os f =
      subst (λ l. IsPermutation l (proper_edges (by_kind side start finish joint circle c e f os (listed_sections os)))) (sym (stream_without c e None false os f))
      (subst (λ l. IsPermutation (streamed side' start' finish' joint' circle' c e None false os f) l) (sym (kinds_without c e f os (listed_sections os)))
      (stream_permutes side' start' finish' joint' circle' c e os f))

-- lists of chains, one after another
pub chains_permute : {A : Type 0} (g h : A → List Edge) → ((a : A) → IsPermutation (proper_edges (g a)) (proper_edges (h a))) → (cs : List A) →
    IsPermutation (proper_edges (flat_map g cs)) (proper_edges (flat_map h cs))
chains_permute g h each [] = IsPermutation-refl []
chains_permute g h each (c ∷ cs) =
    rw (proper_append (g c) (flat_map g cs), proper_append (h c) (flat_map h cs))
    (IsPermutation-append (proper_edges (g c)) (proper_edges (h c)) (proper_edges (flat_map g cs)) (proper_edges (flat_map h cs)) (each c) (chains_permute g h each cs))
