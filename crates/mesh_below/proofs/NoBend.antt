-- Lemmas over points and lists: where given edges meet in whole points alone, no split bends one.
use Rattle.std.proofs.Common.{◌≡◌, ◌⊎◌, inl, inr, ⊎_elim, Bool, true, false, cond, not, ◌&&◌, ◌||◌, List, [], ◌∷◌, refl, sym, ◌∙◌, ap, subst}
use Rattle.std.specs.Prelude.{pos}
use Rattle.std.specs.Ordering.{int_eq}
use Rattle.std.specs.List.{list_any}
use Rattle.std.proofs.lemmas.Bool.{or_cases, and_parts, false≢true}
use Rattle.std.proofs.lemmas.Bool.Decides.{Decides-int_eq}
use Rattle.mesh_plane.specs.Plane.{Point, Edge, turn}
use Rattle.mesh_lattice.specs.Clean.{IsOn, IsProper}
use Rattle.mesh_lattice.specs.Split.{back, same_ends, occurs, is_end, EdgeSplit, split_edge, split_by, after, path, add_split, IsInside, IsCrossing, rounded_crossing, Meets, at_start_of_second, at_end_of_second, at_start_of_first, at_end_of_first, at_crossing, IsLegal, no_cut, split}
use Rattle.mesh_lattice.proofs.Boxes.{turn_start, turn_end, start_box, end_box, one_crossing, crossing_swapped}
use Rattle.mesh_lattice.proofs.Each.{Each, each_append, proper_of}
use Rattle.mesh_lattice.proofs.Ends.{decides_ends}
use Rattle.mesh_lattice.proofs.SoundSplits.{legal_sound, after_proper}
use Rattle.mesh_lattice.proofs.Splits.{occurs_cut}
use Rattle.mesh_rounds.proofs.Paths.{comes_from}
use Rattle.mesh_regions.specs.Regions.{is_bent}
use Rattle.mesh_below.specs.Meeting.{MeetInWholePoints}
use Rattle.mesh_below.proofs.EdgeParts.{IsPart, on_whole, whole_crossing}

-- what holds of each element, whichever way it runs, holds of each edge that occurs
pub each_found : (Q : Edge → Type 0) → ((e : Edge) → Q e → Q (back e)) → (es : List Edge) → Each Q es → (e : Edge) → occurs e es ≡ true → Q e
each_found Q turned [] h e o = absurd (false≢true o)
each_found Q turned (d ∷ es) h e o =
    ⊎_elim
    (λ (t : same_ends e d ≡ true).
    ⊎_elim (λ (x : e ≡ d). subst Q (sym x) h.0) (λ (x : e ≡ back d). subst Q (sym x) (turned d h.0)) ((decides_ends e d).0 t))
    (λ (t : occurs e es ≡ true). each_found Q turned es h.1 e t)
    (or_cases (same_ends e d) (occurs e es) o)

-- ---- parts of an edge

pub part_of_itself : (g : Edge) → IsPart g g
part_of_itself g = (
  record { on_line = turn_start g.0 g.1; in_box = start_box g },
  record { on_line = turn_end g.0 g.1; in_box = end_box g },
)

found_part : (g : Edge) (es : List Edge) → Each (IsPart g) es → (e : Edge) → occurs e es ≡ true → IsPart g e
found_part g = each_found (IsPart g) (λ (e : Edge) (h : IsPart g e). (h.1, h.0))

-- one cut, at a point of the edge where one of its parts is cut
cut_parts : (g e : Edge) (c : Point) (es : List Edge) → Each (IsPart g) es → (occurs e es ≡ true → IsOn g c) → Each (IsPart g) (split_by (record { ends = e; at = c }) es)
cut_parts g e c [] h on = tt
cut_parts g e c (s ∷ es) h on =
    each_append (IsPart g) (split_edge k s) (split_by k es) (by (same_ends s e) refl)
    (cut_parts g e c es h.1 (λ (o : occurs e es ≡ true). on (or_second (same_ends e s) (occurs e es) o)))
  where
    k : EdgeSplit
    k = record { ends = e; at = c }

    or_second : (a b : Bool) → b ≡ true → (a || b) ≡ true
    or_second true b h = refl
    or_second false b h = h

    or_first : (a b : Bool) → a ≡ true → (a || b) ≡ true
    or_first true b h = refl
    or_first false b h = absurd (false≢true h)

    by : (b : Bool) → same_ends s e ≡ b → Each (IsPart g) (cond b ((s.0, c) ∷ (c, s.1) ∷ []) (s ∷ []))
    by false t = (h.0, tt)
    by true t =
        let here : IsOn g c = on (or_first (same_ends e s) (occurs e es) (turned s e t)) in
        ((h.0.0, here), ((here, h.0.1), tt))
      where
        turned : (s e : Edge) → same_ends s e ≡ true → same_ends e s ≡ true
        turned s e t =
            (decides_ends e s).1
            (⊎_elim (λ (x : s ≡ e). inl (sym x)) (λ (x : s ≡ back e). inr (sym (ap back x))) ((decides_ends s e).0 t))

add_parts : (g e : Edge) (c : Point) (ks : List EdgeSplit) → Each (IsPart g) (path ks g) → (occurs e (path ks g) ≡ true → IsOn g c) → Each (IsPart g) (path (add_split e c ks) g)
add_parts g e c ks h on = by (is_end c e)
  where
    by : (b : Bool) → Each (IsPart g) (path (cond b ks ((record { ends = e; at = c }) ∷ ks)) g)
    by true = h
    by false = cut_parts g e c (path ks g) h on

-- an edge on the path after a cut: it was there before, or the one that was cut was
occurs_before : (f e : Edge) (c : Point) (ks : List EdgeSplit) (g : Edge) → occurs f (path (add_split e c ks) g) ≡ true →
    (occurs f (path ks g) ≡ true) ⊎ (occurs e (path ks g) ≡ true)
occurs_before f e c ks g o = by (is_end c e) o
  where
    by : (b : Bool) → occurs f (path (cond b ks ((record { ends = e; at = c }) ∷ ks)) g) ≡ true → (occurs f (path ks g) ≡ true) ⊎ (occurs e (path ks g) ≡ true)
    by true h = inl h
    by false h =
        ⊎_elim
        (λ (x : (occurs f (path ks g) && not (same_ends f e)) ≡ true). inl (and_parts (occurs f (path ks g)) (not (same_ends f e)) x).0)
        (λ (x : (occurs e (path ks g) && (same_ends f (e.0, c) || same_ends f (c, e.1))) ≡ true).
        inr (and_parts (occurs e (path ks g)) (same_ends f (e.0, c) || same_ends f (c, e.1)) x).0)
        (or_cases (occurs f (path ks g) && not (same_ends f e)) (occurs e (path ks g) && (same_ends f (e.0, c) || same_ends f (c, e.1)))
        (sym (occurs_cut f e c (path ks g)) ∙ h))

-- ---- legal splits

module _ (given : List Edge) (proper : IsProper given) (meet : MeetInWholePoints given) where
  -- each piece of a given edge's path is a part of the edge
  abbrev HaveParts : List EdgeSplit → Type 0
  HaveParts ks = (g : Edge) → occurs g given ≡ true → Each (IsPart g) (path ks g)

  inside_part : (ks : List EdgeSplit) → IsProper (after ks given) → HaveParts ks → (g e : Edge) (c : Point) → occurs g given ≡ true →
      occurs e (after ks given) ≡ true → occurs e (path ks g) ≡ true → IsInside e c → IsOn g c
  inside_part ks whole parts g e c is stands on inside =
      on_whole g e c (proper_of (after ks given) whole e stands) (found_part g (path ks g) (parts g is) e on)
      (record { on_line = inside.on_line; in_box = inside.in_box })

  crossing_part : (ks : List EdgeSplit) → IsLegal given ks → IsProper (after ks given) → HaveParts ks → (g e f : Edge) → occurs g given ≡ true →
      occurs e (after ks given) ≡ true → occurs f (after ks given) ≡ true → occurs e (path ks g) ≡ true → IsCrossing e f → IsOn g (rounded_crossing e f)
  crossing_part ks legal whole parts g e f is first second on crossing =
      let r = comes_from ks (legal_sound given ks legal) given f second in
      (whole_crossing g r.edge e f (proper_of given proper g is) (proper_of given proper r.edge r.is_given)
      (proper_of (after ks given) whole e first) (proper_of (after ks given) whole f second)
      (found_part g (path ks g) (parts g is) e on) (found_part r.edge (path ks r.edge) (parts r.edge r.is_given) f r.on_path) crossing
      (meet g r.edge is r.is_given)).0

  -- where two segments meet lies on each given edge that has one of them on its path
  meeting_part : (ks : List EdgeSplit) → IsLegal given ks → IsProper (after ks given) → HaveParts ks → (g : Edge) → occurs g given ≡ true →
      {e f : Edge} {c : Point} → occurs e (after ks given) ≡ true → occurs f (after ks given) ≡ true → Meets e f c →
      (occurs e (path ks g) ≡ true → IsOn g c) × (occurs f (path ks g) ≡ true → IsOn g c)
  meeting_part ks legal whole parts g is {e} {f} first second (at_start_of_second h) =
      (λ o. inside_part ks whole parts g e f.0 is first o h, λ o. (found_part g (path ks g) (parts g is) f o).0)
  meeting_part ks legal whole parts g is {e} {f} first second (at_end_of_second h) =
      (λ o. inside_part ks whole parts g e f.1 is first o h, λ o. (found_part g (path ks g) (parts g is) f o).1)
  meeting_part ks legal whole parts g is {e} {f} first second (at_start_of_first h) =
      (λ o. (found_part g (path ks g) (parts g is) e o).0, λ o. inside_part ks whole parts g f e.0 is second o h)
  meeting_part ks legal whole parts g is {e} {f} first second (at_end_of_first h) =
      (λ o. (found_part g (path ks g) (parts g is) e o).1, λ o. inside_part ks whole parts g f e.1 is second o h)
  meeting_part ks legal whole parts g is {e} {f} first second (at_crossing h) = (
    λ o. crossing_part ks legal whole parts g e f is first second o h,
    λ o. subst (IsOn g) (sym (one_crossing e f h)) (crossing_part ks legal whole parts g f e is second first o (crossing_swapped e f h)),
  )

  one_more : (ks : List EdgeSplit) → IsLegal given ks → HaveParts ks → (e f : Edge) (c : Point) →
      occurs e (after ks given) ≡ true → occurs f (after ks given) ≡ true → Meets e f c → HaveParts (add_split f c (add_split e c ks))
  one_more ks legal parts e f c first second m g is =
      add_parts g f c (add_split e c ks) (add_parts g e c ks (parts g is) on.0)
      (λ (o : occurs f (path (add_split e c ks) g) ≡ true). ⊎_elim on.1 on.0 (occurs_before f e c ks g o))
    where
      on : (occurs e (path ks g) ≡ true → IsOn g c) × (occurs f (path ks g) ≡ true → IsOn g c)
      on = meeting_part ks legal (after_proper ks (legal_sound given ks legal) given proper) parts g is first second m

-- by induction on the splits
legal_parts : {given : List Edge} {ks : List EdgeSplit} → IsLegal given ks → IsProper given → MeetInWholePoints given →
    (g : Edge) → occurs g given ≡ true → Each (IsPart g) (path ks g)
legal_parts no_cut proper meet g is = (part_of_itself g, tt)
legal_parts (split {given} {ks} {e} {f} {c} legal first second m) proper meet g is =
    one_more given proper meet ks legal (legal_parts legal proper meet) e f c first second m g is

parts_straight : (g : Edge) (es : List Edge) → Each (IsPart g) es → list_any (λ (f : Edge). not (int_eq (turn g.0 g.1 f.1) (pos 0))) es ≡ false
parts_straight g [] h = refl
parts_straight g (e ∷ es) h =
    λ i. not ((Decides-int_eq (turn g.0 g.1 e.1) (pos 0)).1 h.0.1.on_line i) || parts_straight g es h.1 i

-- so no given edge is bent
pub never_bent : (given : List Edge) (ks : List EdgeSplit) → IsLegal given ks → IsProper given → MeetInWholePoints given →
    (g : Edge) → occurs g given ≡ true → is_bent ks g ≡ false
never_bent given ks legal proper meet g is = parts_straight g (path ks g) (legal_parts legal proper meet g is)
