-- Lemmas over points and lists: where zones overlap is exact away from the edges that are drawn of them.
use Rattle.std.proofs.Common.{◌≡◌, ◌⊎◌, inl, inr, ℕ, zero, suc, ◌+◌, ◌<◌, ◌≤◌, Bool, true, false, ◌&&◌, List, [], ◌∷◌, ◌++◌, length, get_or, refl, sym, ap, ◌∙◌, subst, arith}
use Rattle.std.specs.Prelude.{ℤ, pos, int_lt}
use Rattle.std.specs.List.{All, AllZip, Contains}
use Rattle.std.proofs.lemmas.Bool.{false≢true}
use Rattle.std.proofs.lemmas.List.Elements.{All-append, All-cons, All-head, All-nil, All-tail, Contains-append_left, Contains-append_right}
use Rattle.mesh_plane.specs.Plane.{Point, Edge}
use Rattle.mesh_plane.specs.Winding.{winding}
use Rattle.mesh_num.specs.Paths.{contours_of}
use Rattle.mesh_lattice.specs.Counted.{bit}
use Rattle.mesh_lattice.specs.FillRules.{filled_by}
use Rattle.mesh_lattice.specs.declared.fill.FillRule.TheVariants.{Positive}
use Rattle.mesh_lattice.specs.declared.fill.WindingRule.TheVariants as winding_rule
use Rattle.mesh_lattice.proofs.NearEdges.{far_less, stays_more}
use Rattle.mesh_split.specs.declared.count.SplitCount.{SplitCount}
use Rattle.mesh_shapes.specs.Resolution.{Choices}
use Rattle.mesh_below.specs.Nearness.{AreRegionsBeyond}
use Rattle.mesh_below.specs.Options.{plain}
use Rattle.mesh_offset.specs.Adding.{answer_edges}
use Rattle.mesh_boolean.specs.Booleans.{both_edges}
use Rattle.mesh_boolean.specs.Overlaps.{AreBoxesApart, IsListed, Overlap, ToldPair, all_listed, listed_of, pair_edges, places_of}
use Rattle.mesh_boolean.specs.Regions.{holds_point}
use Rattle.mesh_boolean.specs.Zones.{WindOnce}
use Rattle.mesh_boolean.specs.declared.rule.BooleanFillRule.{BooleanFillRule}
use Rattle.mesh_boolean.specs.declared.rule.BooleanRule.TheVariants.{Intersect}
use Rattle.mesh_boolean.proofs.ZoneEdges.{overlaid_beyond}
use Rattle.mesh_operands.specs.Combining.{Answered, as_overlap_list, as_shapes}
use Rattle.mesh_operands.specs.Exactness.{AreExactBeyond, AreExactOverlaps, AreExactPairs, IsExactBeyond, IsExactPair, drawn_edges, is_kept}
use Rattle.mesh_operands.specs.Nearness.{AreCombinedOverlapsWithin, AreOverlapsWithin, IsCombinationWithin, IsTold, ToldRegion, alike, regions_in}
use Rattle.mesh_operands.specs.Operands.{Combined, Given, as_boolean, as_coverage, as_overlaps, as_paths}
use Rattle.mesh_operands.proofs.Boxes.{one_winds_not}
use Rattle.mesh_operands.proofs.Exact.{AreWithin, both_hold, first_within, others_within, overlaid_exact, shapes_exact}
use Rattle.mesh_operands.proofs.Near.{counted_once, told_long}

-- ---- two zones

-- exact beyond less
exact_more : (k l : ℕ) (edges : List Edge) (test : ℕ → Point → Bool) (choices : Choices) (answer : List (List (List Point))) → k ≤ l → AreExactBeyond k edges test choices answer → AreExactBeyond l edges test choices answer
exact_more k l edges test choices answer more h = record {
  fills = λ small forward m some q far. h.fills small forward m some q (far_less k l m edges q more far);
  close = λ e o. stays_more k l edges edges e more (λ f p. p) (h.close e o);
}

and_none : (a : Bool) → (a && false) ≡ false
and_none true = refl
and_none false = refl

-- regions of which one winds not round the point do not both hold it
neither_holds : (m : ℕ) (q : Point) (first second : List (List (List Point))) → (winding m q (answer_edges first) ≡ pos 0) ⊎ (winding m q (answer_edges second) ≡ pos 0) →
    (holds_point first m q && holds_point second m q) ≡ false
neither_holds m q first second (inl none) = ap (λ (w : ℤ). int_lt (pos 0) w && holds_point second m q) none
neither_holds m q first second (inr none) = ap (λ (w : ℤ). holds_point first m q && int_lt (pos 0) w) none ∙ and_none (holds_point first m q)

module _ (unit : ℕ) (fill : BooleanFillRule) (zone other : Given) (first second : ToldRegion) (greater : ℕ) (s : IsTold unit fill zone first) (t : IsTold unit fill other second) (u : first.nearness ≤ greater) (v : second.nearness ≤ greater) where
  first_once : WindOnce first.region
  first_once = counted_once first.nearness unit fill plain zone first.region first.before first.after s refl refl

  second_once : WindOnce second.region
  second_once = counted_once second.nearness unit fill plain other second.region second.before second.after t refl refl

  -- resolved together
  common_exact : (k last own : ℕ) (choices : Choices) (answer : List (List (List Point))) → k ≡ greater + last → own ≤ last →
      AreRegionsBeyond own (both_edges Positive first.region second.region) (filled_by (winding_rule.AtLeast 2)) choices answer →
      AreExactBeyond k (drawn_edges unit zone ++ drawn_edges unit other) (is_kept unit Intersect (alike fill) zone other) choices answer
  common_exact k last own choices answer added less beyond =
      exact_more (greater + own) k (drawn_edges unit zone ++ drawn_edges unit other) (is_kept unit Intersect (alike fill) zone other) choices answer (omega (arith, added, less))
      (overlaid_exact unit (alike fill) zone other first second greater s t u v (greater + own) own Intersect choices answer refl
      (overlaid_beyond first.region second.region first_once second_once Intersect choices answer own beyond))

  -- in boxes that lie apart
  apart_exact : (k : ℕ) (choices : Choices) → greater ≤ k → AreBoxesApart first.region second.region →
      AreExactBeyond k (drawn_edges unit zone ++ drawn_edges unit other) (is_kept unit Intersect (alike fill) zone other) choices []
  apart_exact k choices less apart = record {
    fills = λ small forward m some q far.
        ap bit
        (sym (neither_holds m q first.region second.region
        (one_winds_not m some q (contours_of first.region) (contours_of second.region) apart.first_box apart.second_box apart.first_inside apart.second_inside apart.apart))
        ∙ both_hold unit (alike fill) zone other first second greater s t u v Intersect m some q
        (far_less greater k m (drawn_edges unit zone ++ drawn_edges unit other) q less far));
    close = λ e o. absurd (false≢true o);
  }

-- ---- zones at places

-- what is told of the zone at a place
record IsToldAt (k unit : ℕ) (fill : BooleanFillRule) (zone : Given) (region : List (List (List Point))) : Type 0 where
  told : ToldRegion
  is : IsTold unit fill zone told
  less : told.nearness ≤ k
  same : told.region ≡ region

told_at : (k unit : ℕ) (fill : BooleanFillRule) (zones : List Given) (told : List ToldRegion) (i : ℕ) → AllZip (IsTold unit fill) zones told → AreWithin k told → i < length zones →
    IsToldAt k unit fill (get_or zones i (as_paths [])) (get_or (regions_in told) i [])
told_at k unit fill [] told i each most low = absurd (omega (arith, low))
told_at k unit fill (zone ∷ zones) [] i each most low = absurd each
told_at k unit fill (zone ∷ zones) (t ∷ told) zero each most low = record { told = t; is = each.0; less = first_within k unit fill t told most; same = refl }
told_at k unit fill (zone ∷ zones) (t ∷ told) (suc i) each most low = told_at k unit fill zones told i each.1 (others_within k unit fill t told most) (omega (arith, low))

module _ (k unit : ℕ) (fill : BooleanFillRule) (choices : Choices) (zones : List Given) (told : List ToldRegion) (greater last : ℕ) (added : k ≡ greater + last) (each : AllZip (IsTold unit fill) zones told) (most : AreWithin greater told) where
  pair_at : (i j own : ℕ) (answer : List (List (List Point))) → i < length zones → j < length zones → own ≤ last → AreRegionsBeyond own (pair_edges (regions_in told) i j) (filled_by (winding_rule.AtLeast 2)) choices answer →
      IsExactPair k unit fill choices zones i j answer
  pair_at i j own answer low within less beyond =
      let a = told_at greater unit fill zones told i each most low in
      let b = told_at greater unit fill zones told j each most within in
      common_exact unit fill (get_or zones i (as_paths [])) (get_or zones j (as_paths [])) a.told b.told greater a.is b.is a.less b.less k last own choices answer added less
      (subst (λ (es : List Edge). AreRegionsBeyond own es (filled_by (winding_rule.AtLeast 2)) choices answer) (λ n. both_edges Positive (sym a.same n) (sym b.same n)) beyond)

  apart_at : (i j : ℕ) → i < length zones → j < length zones → AreBoxesApart (get_or (regions_in told) i []) (get_or (regions_in told) j []) → IsExactPair k unit fill choices zones i j []
  apart_at i j low within apart =
      let a = told_at greater unit fill zones told i each most low in
      let b = told_at greater unit fill zones told j each most within in
      apart_exact unit fill (get_or zones i (as_paths [])) (get_or zones j (as_paths [])) a.told b.told greater a.is b.is a.less b.less k choices (omega (arith, added))
      (subst (λ (r : List (List (List Point))). AreBoxesApart a.told.region r) (sym b.same)
      (subst (λ (r : List (List (List Point))). AreBoxesApart r (get_or (regions_in told) j [])) (sym a.same) apart))

-- ---- pairs that are listed

first_or_later : {X : Type 0} (x z : X) (xs : List X) (n : ℕ) → n < length (x ∷ xs) → get_or (x ∷ xs) n z ≡ z → (x ≡ z) ⊎ Contains xs z
first_or_later x z xs zero low is = inl is
first_or_later x z xs (suc n) low is = inr (n, omega (arith, low), is)

module _ (Has : ℕ → ℕ → List (List (List Point)) → Type 0) where
  abbrev IsOf : Overlap → Type 0
  IsOf o = Has o.0 o.1.0 o.1.1

  abbrev IsOfPair : ToldPair → Type 0
  IsOfPair t = Has t.pair.0 t.pair.1 t.common

  one_listed : (pair : ℕ × ℕ) (common : List (List (List Point))) → Has pair.0 pair.1 common → All IsOf (listed_of pair common)
  one_listed pair [] has = All-nil IsOf
  one_listed pair (shape ∷ more) has = All-cons IsOf (pair.0, (pair.1, shape ∷ more)) [] has (All-nil IsOf)

  -- what is listed is what both zones have in common
  each_listed : (told : List ToldPair) → All IsOfPair told → All IsOf (all_listed told)
  each_listed [] each = All-nil IsOf
  each_listed (t ∷ told) each =
      All-append IsOf (listed_of t.pair t.common) (all_listed told) (one_listed t.pair t.common (All-head IsOfPair t told each)) (each_listed told (All-tail IsOfPair t told each))

  one_or_nothing : (pair : ℕ × ℕ) (common : List (List (List Point))) (rest : List Overlap) → Has pair.0 pair.1 common → IsListed (listed_of pair common ++ rest) pair.0 pair.1 ⊎ Has pair.0 pair.1 []
  one_or_nothing pair [] rest has = inr has
  one_or_nothing pair (shape ∷ more) rest has = inl (shape ∷ more, Contains-append_left ((pair.0, (pair.1, shape ∷ more)) ∷ []) rest (pair.0, (pair.1, shape ∷ more)) (0, omega arith, refl))

  -- and a pair that was resolved is listed, or has nothing in common
  listed_or_nothing : (told : List ToldPair) → All IsOfPair told → (i j : ℕ) → Contains (places_of told) (i, j) → IsListed (all_listed told) i j ⊎ Has i j []
  listed_or_nothing [] each i j place = absurd (omega (arith, place.1))
  listed_or_nothing (t ∷ told) each i j place =
      elim (first_or_later t.pair (i, j) (places_of told) place.0 place.1 place.2) [
        | inl is ↦
            subst (λ (p : ℕ × ℕ). IsListed (all_listed (t ∷ told)) p.0 p.1 ⊎ Has p.0 p.1 []) is (one_or_nothing t.pair t.common (all_listed told) (All-head IsOfPair t told each))
        | inr later ↦
            elim (listed_or_nothing told (All-tail IsOfPair t told each) i j later) [
              | inl l ↦ inl (l.0, Contains-append_right (listed_of t.pair t.common) (all_listed told) (i, (j, l.0)) l.1)
              | inr nothing ↦ inr nothing
            ]
      ]

pairs_exact : (k unit : ℕ) (fill : BooleanFillRule) (choices : Choices) (zones : List Given) (found : List Overlap) (old new : SplitCount) → AreOverlapsWithin k unit choices (fill, zones) found old new →
    AreExactPairs k unit fill choices zones found
pairs_exact k unit fill choices zones found old new c =
    let long = told_long unit fill zones c.told c.each.each in
    let Has = IsExactPair k unit fill choices zones in
    let told = c.overlaps.told in
    let each : All (λ (t : ToldPair). Has t.pair.0 t.pair.1 t.common) told = λ n d low.
    let t = get_or told n d in
    let is = c.overlaps.each n d low in
    let up = is.ascending in
    let last = is.within in
    pair_at k unit fill choices zones c.told c.first c.last c.added c.each.each c.each.greatest.most t.pair.0 t.pair.1 t.nearness t.common (omega (arith, up, last, long)) (omega (arith, last, long))
    (c.overlaps.most n d low) is.regions.beyond in
    record {
      listed = subst (All (λ (o : Overlap). Has o.0 o.1.0 o.1.1)) (sym c.overlaps.listing) (each_listed Has told each);
      others = λ i j less within.
          elim (c.overlaps.others i j less (omega (arith, within, long))) [
            | inl placed ↦
                subst (λ (os : List Overlap). IsListed os i j ⊎ Has i j []) (sym c.overlaps.listing) (listed_or_nothing Has told each i j placed)
            | inr apart ↦ inr (apart_at k unit fill choices zones c.told c.first c.last c.added c.each.each c.each.greatest.most i j (omega (arith, less, within)) within apart)
          ];
    }

-- ---- combinations

overlaps_exact : (k unit : ℕ) (choices : Choices) (combined : Combined) (found : List Overlap) (old new : SplitCount) → AreCombinedOverlapsWithin k unit choices combined found old new →
    AreExactOverlaps k unit choices combined found
overlaps_exact k unit choices (as_boolean rule fill subject clip) found old new h = absurd h
overlaps_exact k unit choices (as_coverage least fill zones) found old new h = absurd h
overlaps_exact k unit choices (as_overlaps fill zones) found old new h = pairs_exact k unit fill choices zones found old new h

pub combination_exact : (k unit : ℕ) (choices : Choices) (combined : Combined) (answer : Answered) (old new : SplitCount) → IsCombinationWithin k unit choices combined answer old new →
    IsExactBeyond k unit choices combined answer
combination_exact k unit choices combined (as_shapes answer) old new h = shapes_exact k unit choices combined answer old new h
combination_exact k unit choices combined (as_overlap_list found) old new h = overlaps_exact k unit choices combined found old new h
