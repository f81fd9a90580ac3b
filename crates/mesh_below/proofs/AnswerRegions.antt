-- Lemmas over points and lists: one winding inside a segment, and contours that wind once round what is filled.
use Rattle.std.proofs.Common.{◌≡◌, ℕ, ◌<◌, Bool, true, false, cond, List, [], ◌∷◌, map, refl, sym, ◌∙◌, ap, arith}
use Rattle.std.specs.Prelude.{ℤ, pos, ◌+ℤ◌}
use Rattle.std.specs.List.{flat_map}
use Rattle.mesh_num.specs.Paths.{contours_of}
use Rattle.std.proofs.lemmas.Int.{ints}
use Rattle.mesh_plane.specs.Plane.{Point, Edge}
use Rattle.mesh_plane.specs.Winding.{boundary, crossing_on, winding, IsBalanced}
use Rattle.mesh_plane.proofs.Sums.{sum_of_append}
use Rattle.mesh_lattice.specs.Clean.{IsProper}
use Rattle.mesh_shapes.specs.Contours.{vertices}
use Rattle.mesh_lattice.specs.FillRules.{filled, filled_by, winding_rule_of}
use Rattle.mesh_regions.specs.BoundaryLaws.{once}
use Rattle.mesh_regions.specs.SideLaws.{AreSplit}
use Rattle.mesh_below.specs.Laws.{AreRegions, IsAnsweredAgain}
use Rattle.mesh_regions.specs.Regions.{OutsideBent}
use Rattle.mesh_shapes.specs.Resolution.{Choices, IsResolution}
use Rattle.mesh_lattice.specs.Split.{occurs, after}
use Rattle.mesh_lattice.specs.declared.fill.FillRule.{FillRule}
use Rattle.mesh_lattice.specs.declared.fill.FillRule.TheVariants.{Positive}
use Rattle.mesh_lattice.specs.declared.fill.WindingRule.{WindingRule}
use Rattle.mesh_lattice.specs.declared.fill.WindingRule.TheVariants as rule
use Rattle.mesh_regions.proofs.BoundaryFill.{boundary_cover}
use Rattle.mesh_lattice.proofs.KeptBySplits.{after_balanced}
use Rattle.mesh_regions.proofs.BoundaryRegions.{after_winds}
use Rattle.mesh_lattice.proofs.SoundSplits.{legal_sound, legal_boxed, after_proper, ProperEnds}
use Rattle.mesh_shapes.proofs.ContoursKept.{vertices_winding}
use Rattle.mesh_below.proofs.Again.{answer_meets, answer_proper, closed_balanced, nowhere_bent, order_balanced, order_meets, order_proper, order_winds}
use Rattle.mesh_below.proofs.NoBend.{never_bent}
use Rattle.mesh_below.proofs.Partition.{answer_winds}
use Rattle.mesh_lattice.proofs.Each.{Each, each_left, each_right, each_of, proper_of}
use Rattle.mesh_regions.proofs.SplitBoundary.{boundary_winds}

-- ---- contours

-- the answered vertices of contours wind as the contours do
vertices_wind : (all : Bool) (m : ℕ) (q : Point) (cs : List (List Point)) → Each ProperEnds (flat_map boundary cs) →
    winding m q (flat_map boundary (map (vertices all) cs)) ≡ winding m q (flat_map boundary cs)
vertices_wind all m q [] h = refl
vertices_wind all m q (c ∷ cs) h =
    let first = vertices_winding all c m q (each_left ProperEnds (boundary c) (flat_map boundary cs) h) in
    let rest = vertices_wind all m q cs (each_right ProperEnds (boundary c) (flat_map boundary cs) h) in
    let f : Edge → ℤ = λ (e : Edge). crossing_on m q e.0 e.1 in
    sum_of_append f (boundary (vertices all c)) (flat_map boundary (map (vertices all) cs))
    ∙ ((λ i. first i +ℤ rest i) ∙ sym (sum_of_append f (boundary c) (flat_map boundary cs)))

-- ---- answers

-- the edges as they are cut are split
pub resolved_split : (edges : List Edge) (fill : ℤ → Bool) (options : Choices) (answer : List (List (List Point))) →
    IsProper edges → IsBalanced edges → (r : IsResolution edges fill options answer) → AreSplit (after r.splits edges)
resolved_split edges fill options answer proper balanced r = record {
  balanced = after_balanced r.splits edges balanced;
  clean = r.clean;
  proper = after_proper r.splits (legal_sound edges r.splits r.legal) edges proper;
}

-- the edges of the contours have different ends
pub resolved_proper : (edges : List Edge) (fill : ℤ → Bool) (options : Choices) (answer : List (List (List Point))) →
    IsProper edges → IsBalanced edges → (r : IsResolution edges fill options answer) →
    Each ProperEnds (flat_map boundary r.contours)
resolved_proper edges fill options answer proper balanced r =
    each_of ProperEnds bounds
    (λ (e : Edge) (o : occurs e bounds ≡ true). proper_of es split.proper e (boundary_cover es bounds fill r.bounded e o))
  where
    es : List Edge
    es = after r.splits edges

    bounds : List Edge
    bounds = flat_map boundary r.contours

    split : AreSplit es
    split = resolved_split edges fill options answer proper balanced r

module _ (edges : List Edge) (fill : ℤ → Bool) (options : Choices) (answer : List (List (List Point)))
    (proper : IsProper edges) (balanced : IsBalanced edges) (empty : fill (pos 0) ≡ false) (r : IsResolution edges fill options answer) where
  abbrev es : List Edge
  es = after r.splits edges

  abbrev contours : List Edge
  contours = flat_map boundary (map (vertices options.all_vertices) r.contours)

  outside_bent : (m : ℕ) → 0 < m → (q : Point) → OutsideBent r.splits edges m q → winding m q es ≡ winding m q edges
  outside_bent m some q out = after_winds r.splits edges (pos m) q (legal_boxed edges r.splits r.legal) (omega (arith, ints)) (proper_of edges proper) out

  by_split : (m : ℕ) → 0 < m → (q : Point) → winding m q contours ≡ once fill (winding m q es)
  by_split m some q =
      vertices_wind options.all_vertices m q r.contours (resolved_proper edges fill options answer proper balanced r)
      ∙ boundary_winds es (flat_map boundary r.contours) fill (resolved_split edges fill options answer proper balanced r) empty r.bounded m some q

  by_given : (m : ℕ) → 0 < m → (q : Point) → OutsideBent r.splits edges m q → winding m q contours ≡ once fill (winding m q edges)
  by_given m some q out = by_split m some q ∙ ap (once fill) (outside_bent m some q out)

once_again : (fill : ℤ → Bool) (w : ℤ) → once (filled Positive) (once fill w) ≡ once fill w
once_again fill w = by (fill w)
  where
    by : (b : Bool) → once (filled Positive) (cond b (pos 1) (pos 0)) ≡ cond b (pos 1) (pos 0)
    by true = refl
    by false = refl

-- an answer is answered again
answered_again : (edges : List Edge) (fill : ℤ → Bool) (options : Choices) (answer : List (List (List Point))) →
    IsProper edges → IsBalanced edges → fill (pos 0) ≡ false → IsResolution edges fill options answer → IsAnsweredAgain options answer
answered_again edges fill options answer proper balanced empty r least forward given same choices small straight next s m some q =
    answer_winds given (filled Positive) choices next s small straight m q
    ∙ (by_given given (filled Positive) choices next own_proper (order_balanced given own same (closed_balanced (contours_of answer))) refl s m some q
    (nowhere_bent given (filled Positive) choices next s own_proper (order_meets given own same (answer_meets edges fill options answer r split)) m q)
    ∙ (ap (once (filled Positive)) (order_winds given own same m q ∙ first)
    ∙ (once_again fill (winding m q (after r.splits edges))
    ∙ sym first)))
  where
    own : List Edge
    own = flat_map boundary (contours_of answer)

    split : AreSplit (after r.splits edges)
    split = resolved_split edges fill options answer proper balanced r

    own_proper : IsProper given
    own_proper = order_proper given own same (answer_proper edges fill options answer r split)

    first : winding m q own ≡ once fill (winding m q (after r.splits edges))
    first = answer_winds edges fill options answer r least forward m q ∙ by_split edges fill options answer proper balanced empty r m some q

pub regions_of : (edges : List Edge) (fill : ℤ → Bool) (options : Choices) (answer : List (List (List Point))) →
    IsProper edges → IsBalanced edges → fill (pos 0) ≡ false → IsResolution edges fill options answer → AreRegions edges fill options answer
regions_of edges fill options answer proper balanced empty r = record {
  resolution = r;
  split = by_split edges fill options answer proper balanced empty r;
  given = by_given edges fill options answer proper balanced empty r;
  unbent = outside_bent edges fill options answer proper balanced empty r;
  answered = answer_winds edges fill options answer r;
  never_bent = never_bent edges r.splits r.legal proper;
  meeting = answer_meets edges fill options answer r (resolved_split edges fill options answer proper balanced r);
  proper = answer_proper edges fill options answer r (resolved_split edges fill options answer proper balanced r);
  again = answered_again edges fill options answer proper balanced empty r;
}

-- no rule fills where nothing winds
pub filled_by_none : (rule : WindingRule) → filled_by rule (pos 0) ≡ false
filled_by_none rule.Positive = refl
filled_by_none rule.Negative = refl
filled_by_none rule.EvenOdd = refl
filled_by_none rule.NonZero = refl
filled_by_none (rule.AtLeast least) = refl

pub filled_none : (fill : FillRule) → filled fill (pos 0) ≡ false
filled_none fill = filled_by_none (winding_rule_of fill)

-- those of a resolution are made of that resolution
pub regions_made : (edges : List Edge) (fill : ℤ → Bool) (options : Choices) (answer : List (List (List Point))) →
    IsProper edges → IsBalanced edges → fill (pos 0) ≡ false → (r : IsResolution edges fill options answer) → (made : AreRegions edges fill options answer) × (made.resolution ≡ r)
unfolding regions_of
regions_made edges fill options answer proper balanced empty r = (regions_of edges fill options answer proper balanced empty r, refl)
