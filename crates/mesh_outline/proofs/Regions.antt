-- Lemmas over points and lists: outlines are regions.
use Rattle.std.proofs.Common.{◌≡◌, ℕ, ◌≤◌, ◌<◌, ◌^◌, Bool, true, false, cond, ◌&&◌, List, [], ◌∷◌, ◌++◌, refl, sym, ◌∙◌, ap, subst, arith}
use Rattle.std.specs.Prelude.{ℤ, pos, ◌+◌, ◌+ℤ◌, ◌-ℤ◌, neg_ℤ, Option, Some, None, int_lt, count_by}
use Rattle.std.specs.List.{AllZip, flat_map}
use Rattle.std.proofs.lemmas.Int.{ints}
use Rattle.std.proofs.lemmas.List.Sums.{sum_by-cons}
use Rattle.mesh_plane.specs.Plane.{Point, Edge}
use Rattle.mesh_plane.specs.Winding.{crossing_on, winding}
use Rattle.mesh_plane.proofs.Comparing.{test_less}
use Rattle.mesh_plane.proofs.Crossings.{crossing_on_odd}
use Rattle.mesh_plane.proofs.Sums.{total_append, total_permutation}
use Rattle.mesh_plane.proofs.Whole.{linear}
use Rattle.mesh_num.specs.Segments.{proper_edges}
use Rattle.mesh_lattice.specs.Counted.{bit}
use Rattle.mesh_lattice.specs.FillRules.{filled}
use Rattle.mesh_lattice.specs.declared.fill.FillRule.{FillRule}
use Rattle.mesh_lattice.specs.declared.fill.FillRule.TheVariants.{Positive}
use Rattle.mesh_below.specs.Regions.{OutsideBent}
use Rattle.mesh_shapes.specs.Contours.{double_area}
use Rattle.mesh_shapes.specs.Resolution.{Choices}
use Rattle.mesh_below.specs.Laws.{AreRegions}
use Rattle.mesh_join.specs.Styles.{OffsetJoin, OutlineStyle, outer, inner}
use Rattle.mesh_offset.specs.Adding.{answer_edges, in_sense}
use Rattle.mesh_offset.specs.Regions.{WindsOnceWhere}
use Rattle.mesh_offset.proofs.Occurring.{back_total}
use Rattle.mesh_offset.proofs.ProperEdges.{proper_edges_total}
use Rattle.mesh_outline.specs.Kinds.{kind_fill, way_for}
use Rattle.mesh_outline.specs.declared.kind.ContourKind.TheVariants.{Outer, Hole, Ignored}
use Rattle.mesh_outline.specs.Outline.{outline_edges}
use Rattle.mesh_outline.specs.Regions.{AreOutlineRegions, AreRegionsAlone, AreRegionsEach, OutsideBentAlone, OutsideBentEach, is_cleared, is_filled, more_fill}
use Rattle.mesh_outline.specs.Building.{style_for}
use Rattle.mesh_outline.specs.Resolved.{Gives, IsAnswerAlone, IsOutline, fill_for}
use Rattle.mesh_outline.proofs.Final.{alone_regions, outline_regions}

-- the ways that an outer boundary and a hole move
way_of : {A : Type 0} (x y : A) → Some x ≡ Some y → x ≡ y
way_of {A} x y e = ap held e
  where
    held : Option A → A
    held (Some z) = z
    held None = x

module _ (unit : ℕ) (least : 2 ^ 14 ≤ unit) (m : ℕ) (some : 0 < m) (q : Point) where
  -- what comes of one contour alone winds once round what the edges of its outline fill
  alone_winds : (way : OffsetJoin) (rule : FillRule) (contour : List Point) (answer : List (List (List Point))) →
      (alone : IsAnswerAlone unit way (filled rule) contour answer) → OutsideBent alone.resolution.splits alone.built m q →
      winding m q (answer_edges answer) ≡ bit (filled rule (winding m q (outline_edges unit way contour)))
  alone_winds way rule contour answer alone out =
      let made = alone_regions unit way rule contour answer least alone in
      made.0.answered refl refl m q
      ∙ (made.0.given m some q (subst (λ r. OutsideBent r.splits alone.built m q) (sym made.1) out)
      ∙ ap (λ (w : ℤ). bit (filled rule w)) (sym (total_permutation (crossing_on m q) alone.built (outline_edges unit way contour) alone.same)))

  -- by the sign of its area
  moved_winds : (style : OutlineStyle) (contour : List Point) (way : OffsetJoin) (answer : List (List (List Point))) (a b : Bool) → (a ≡ true → b ≡ true → ⊥) →
      way_for style (cond a Outer (cond b Hole Ignored)) ≡ Some way →
      winding m q (answer_edges answer) ≡ bit (filled (kind_fill (cond a Outer (cond b Hole Ignored))) (winding m q (outline_edges unit way contour))) →
      winding m q (in_sense (kind_fill (cond a Outer (cond b Hole Ignored))) (answer_edges answer))
      ≡ bit (a && int_lt (pos 0) (winding m q (outline_edges unit (outer style) contour))) -ℤ bit (b && int_lt (winding m q (outline_edges unit (inner style) contour)) (pos 0))
  moved_winds style contour way answer true true both moves wound = absurd (both refl refl)
  moved_winds style contour way answer true false both moves wound =
      wound
      ∙ (ap (λ (w : OffsetJoin). bit (int_lt (pos 0) (winding m q (outline_edges unit w contour)))) (sym (way_of (outer style) way moves))
      ∙ less_none (bit (int_lt (pos 0) (winding m q (outline_edges unit (outer style) contour)))))
    where
      less_none : (z : ℤ) → z ≡ z -ℤ pos 0
      less_none z = omega (arith, linear)
  moved_winds style contour way answer false true both moves wound =
      back_total m q (answer_edges answer)
      ∙ (ap neg_ℤ
      (wound
      ∙ ap (λ (w : OffsetJoin). bit (int_lt (winding m q (outline_edges unit w contour)) (pos 0))) (sym (way_of (inner style) way moves)))
      ∙ from_none (bit (int_lt (winding m q (outline_edges unit (inner style) contour)) (pos 0))))
    where
      from_none : (z : ℤ) → neg_ℤ z ≡ pos 0 -ℤ z
      from_none z = omega (arith, linear)
  moved_winds style contour way answer false false both moves wound = absurd (none_some moves)
    where
      none_some : None ≡ Some way → ⊥
      none_some e = cc

  ignored_winds : (style : OutlineStyle) (contour : List Point) (a b : Bool) → way_for style (cond a Outer (cond b Hole Ignored)) ≡ None →
      pos 0 ≡ bit (a && int_lt (pos 0) (winding m q (outline_edges unit (outer style) contour))) -ℤ bit (b && int_lt (winding m q (outline_edges unit (inner style) contour)) (pos 0))
  ignored_winds style contour true b e = absurd (some_none e)
    where
      some_none : Some (outer style) ≡ None → ⊥
      some_none e = cc
  ignored_winds style contour false true e = absurd (some_none e)
    where
      some_none : Some (inner style) ≡ None → ⊥
      some_none e = cc
  ignored_winds style contour false false e = refl

  one_sign : (area : ℤ) → int_lt (pos 0) area ≡ true → int_lt area (pos 0) ≡ true → ⊥
  one_sign area h k =
      let above = test_less (pos 0) area h in
      let below = test_less area (pos 0) k in
      omega (arith, linear, above, below)

  -- what a contour gives whose answer winds once where its outline fills
  pub moved_counts : (style : OutlineStyle) (contour : List Point) (way : OffsetJoin) (answer : List (List (List Point))) → style_for style (double_area contour) ≡ Some way →
      winding m q (answer_edges answer) ≡ bit (filled (fill_for (double_area contour)) (winding m q (outline_edges unit way contour))) →
      winding m q (in_sense (fill_for (double_area contour)) (answer_edges answer)) ≡ bit (is_filled unit style m q contour) -ℤ bit (is_cleared unit style m q contour)
  moved_counts style contour way answer moves wound =
      moved_winds style contour way answer (int_lt (pos 0) (double_area contour)) (int_lt (double_area contour) (pos 0)) (one_sign (double_area contour)) moves wound

  pub ignored_counts : (style : OutlineStyle) (contour : List Point) → style_for style (double_area contour) ≡ None →
      pos 0 ≡ bit (is_filled unit style m q contour) -ℤ bit (is_cleared unit style m q contour)
  ignored_counts style contour none =
      ignored_winds style contour (int_lt (pos 0) (double_area contour)) (int_lt (double_area contour) (pos 0)) none

  given_winds : (style : OutlineStyle) (contour : List Point) (es : List Edge) → (gives : Gives unit style contour es) → OutsideBentAlone unit style contour es gives m q →
      winding m q es ≡ bit (is_filled unit style m q contour) -ℤ bit (is_cleared unit style m q contour)
  given_winds style contour _ (Gives.moved {way = way} {answer = answer} moves alone) out =
      moved_counts style contour way answer moves (alone_winds way (fill_for (double_area contour)) contour answer alone out)
  given_winds style contour _ (Gives.ignored none) out = ignored_counts style contour none

  counted_more : (f c : Bool) (fs cs : ℕ) (w : ℤ) → w ≡ pos fs -ℤ pos cs →
      (bit f -ℤ bit c) +ℤ w ≡ pos (cond f 1 0 + fs) -ℤ pos (cond c 1 0 + cs)
  counted_more true true fs cs w h = omega (arith, ints, h)
  counted_more true false fs cs w h = omega (arith, ints, h)
  counted_more false true fs cs w h = omega (arith, ints, h)
  counted_more false false fs cs w h = omega (arith, ints, h)

  -- one contour more
  pub one_more : (style : OutlineStyle) (contour : List Point) (contours : List (List Point)) (es rest : List Edge) →
      winding m q es ≡ bit (is_filled unit style m q contour) -ℤ bit (is_cleared unit style m q contour) →
      winding m q rest ≡ pos (count_by (is_filled unit style m q) contours) -ℤ pos (count_by (is_cleared unit style m q) contours) →
      winding m q (es ++ rest)
      ≡ pos (count_by (is_filled unit style m q) (contour ∷ contours)) -ℤ pos (count_by (is_cleared unit style m q) (contour ∷ contours))
  one_more style contour contours es rest first others =
      let filled_more = sum_by-cons (λ c. cond (is_filled unit style m q c) 1 0) contour contours in
      let cleared_more = sum_by-cons (λ c. cond (is_cleared unit style m q c) 1 0) contour contours in
      total_append (crossing_on m q) es rest
      ∙ (ap (λ (z : ℤ). z +ℤ winding m q rest) first
      ∙ (counted_more (is_filled unit style m q contour) (is_cleared unit style m q contour) (count_by (is_filled unit style m q) contours) (count_by (is_cleared unit style m q) contours)
      (winding m q rest) others
      ∙ (λ i. pos (sym filled_more i) -ℤ pos (sym cleared_more i))))

  -- what contours give winds as many times as contours fill the point, less those that clear it
  all_winds : (style : OutlineStyle) (contours : List (List Point)) (edges : List (List Edge)) → (each : AllZip (Gives unit style) contours edges) →
      OutsideBentEach unit style contours edges each m q →
      winding m q (flat_map (λ (es : List Edge). es) edges)
      ≡ pos (count_by (is_filled unit style m q) contours) -ℤ pos (count_by (is_cleared unit style m q) contours)
  all_winds style [] [] each out = refl
  all_winds style [] (es ∷ edges) each out = absurd each
  all_winds style (contour ∷ contours) [] each out = absurd each
  all_winds style (contour ∷ contours) (es ∷ edges) each out =
      one_more style contour contours es (flat_map (λ (es : List Edge). es) edges)
      (given_winds style contour es each.0 out.0) (all_winds style contours edges each.1 out.1)

pub above_less : (a b : ℤ) → int_lt (pos 0) (a -ℤ b) ≡ int_lt b a
above_less a b = grind (arith, ints)

-- what comes of each contour alone is made of regions
module _ (unit : ℕ) (least : 2 ^ 14 ≤ unit) (style : OutlineStyle) where
  made_alone : (contour : List Point) (es : List Edge) → (gives : Gives unit style contour es) → AreRegionsAlone unit style contour es gives
  made_alone contour _ (Gives.moved {way = way} {answer = answer} moves alone) =
      alone_regions unit way (fill_for (double_area contour)) contour answer least alone
  made_alone contour _ (Gives.ignored none) = tt

  made_each : (contours : List (List Point)) (edges : List (List Edge)) → (each : AllZip (Gives unit style) contours edges) →
      AreRegionsEach unit style contours edges each
  made_each [] edges each = tt
  made_each (contour ∷ contours) [] each = tt
  made_each (contour ∷ contours) (es ∷ edges) each = (made_alone contour es each.0, made_each contours edges each.1)

-- each outline is made of regions
pub regions_of_outline : (unit : ℕ) → 2 ^ 14 ≤ unit → (style : OutlineStyle) (choices : Choices) (contours : List (List Point)) (answer : List (List (List Point))) →
    (outline : IsOutline unit style choices contours answer) →
    (made : AreOutlineRegions unit style choices contours answer) × (made.outline ≡ outline)
regions_of_outline unit least style choices contours answer outline = (
  record {
    outline = outline;
    regions = made.0;
    same = made.1;
    alone = made_each unit least style contours outline.give.edges outline.give.each;
    fills = fills;
  },
  refl,
)
  where
    made : (regions : AreRegions (proper_edges outline.given) (filled Positive) choices answer) × (regions.resolution ≡ outline.resolution)
    made = outline_regions unit style choices contours answer outline

    fills : WindsOnceWhere (more_fill unit style contours)
        (λ m q. OutsideBentEach unit style contours outline.give.edges outline.give.each m q × OutsideBent made.0.resolution.splits (proper_edges outline.given) m q) choices answer
    fills small forward m some q out =
        made.0.answered small forward m q
        ∙ (made.0.given m some q out.1
        ∙ ap bit
        (ap (int_lt (pos 0))
        (proper_edges_total (crossing_on m q) (crossing_on_odd m q) outline.given
        ∙ (ap (winding m q) outline.give.joined
        ∙ all_winds unit least m some q style contours outline.give.edges outline.give.each out.0))
        ∙ above_less (pos (count_by (is_filled unit style m q) contours)) (pos (count_by (is_cleared unit style m q) contours))))
