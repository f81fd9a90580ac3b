-- Lemmas over points and lists: what is made of operands is exact away from the edges that are drawn of them.
use Rattle.std.proofs.Common.{◌≡◌, ⊎_elim, ℕ, ◌+◌, ◌<◌, ◌≤◌, Bool, true, false, not, cond, List, [], ◌∷◌, ◌++◌, map, refl, sym, ap, ◌∙◌, subst, arith}
use Rattle.std.specs.Prelude.{pos, int_lt, nat_le, max, count_by}
use Rattle.std.specs.List.{All, AllZip, flat_map}
use Rattle.std.specs.List.Sorted.{IsPermutation}
use Rattle.std.proofs.lemmas.Bool.{false≢true, or_cases, or_left, or_right}
use Rattle.std.proofs.lemmas.List.Elements.{All-head, All-tail}
use Rattle.std.proofs.lemmas.List.Sums.{sum_by-cons}
use Rattle.mesh_plane.specs.Plane.{Point, Edge}
use Rattle.mesh_plane.specs.Winding.{same_point}
use Rattle.mesh_num.specs.Segments.{proper_edges}
use Rattle.mesh_lattice.specs.Clean.{IsOn, refined_edge}
use Rattle.mesh_lattice.specs.Counted.{bit}
use Rattle.mesh_lattice.specs.Nearness.{IsFarFrom, StaysNear}
use Rattle.mesh_lattice.specs.Split.{occurs}
use Rattle.mesh_lattice.proofs.NearEdges.{far_from_through, far_less, near_through, stays_more}
use Rattle.mesh_lattice.proofs.Splits.{occurs_append}
use Rattle.mesh_split.specs.declared.count.SplitCount.{SplitCount}
use Rattle.mesh_shapes.specs.Resolution.{Choices}
use Rattle.mesh_below.specs.Options.{plain}
use Rattle.mesh_offset.specs.Adding.{answer_edges, in_sense}
use Rattle.mesh_offset.specs.Regions.{wind_above}
use Rattle.mesh_offset.proofs.Occurring.{kept, permuted, sensed}
use Rattle.mesh_stroke.specs.Regions.{all_pieces}
use Rattle.mesh_stroke.specs.Resolved.{all_edges}
use Rattle.mesh_variable_stroke.specs.Regions.{all_pieces as all_variable_pieces}
use Rattle.mesh_variable_stroke.specs.Resolved.{all_edges as all_variable_edges}
use Rattle.mesh_boolean.specs.Regions.{holds_point}
use Rattle.mesh_boolean.specs.Rules.{combine, way_of}
use Rattle.mesh_boolean.specs.Zones.{AreOverlaidRegionsBeyond, edges_by, zone_edges}
use Rattle.mesh_boolean.specs.declared.rule.BooleanFill.{BooleanFill}
use Rattle.mesh_boolean.specs.declared.rule.BooleanFillRule.{BooleanFillRule}
use Rattle.mesh_boolean.specs.declared.rule.BooleanRule.{BooleanRule}
use Rattle.mesh_boolean.specs.declared.rule.BooleanRule.TheVariants as by_rule
use Rattle.mesh_boolean.specs.declared.rule.Way.{Way}
use Rattle.mesh_boolean.specs.declared.rule.Way.TheVariants as way
use Rattle.mesh_drawing.specs.Drawn.{as_outline, as_stroke, as_variable_stroke}
use Rattle.mesh_operands.specs.Exactness.{AreExactBeyond, AreExactShapes, drawn_edges, edges_for, is_covered, is_kept, operand_holds}
use Rattle.mesh_operands.specs.Nearness.{AreCombinedShapesWithin, IsBooleanWithin, IsCountedRegionOf, IsCoverageWithin, IsOfBothWithin, IsTold, ToldRegion, regions_in}
use Rattle.mesh_operands.specs.Operands.{Combined, Given, as_boolean, as_coverage, as_drawing, as_overlaps, as_paths}

-- ---- one operand

-- the same edges in another order
exact_permuted : (k : ℕ) (built edges : List Edge) (test : ℕ → Point → Bool) (choices : Choices) (answer : List (List (List Point))) → IsPermutation built edges → AreExactBeyond k built test choices answer →
    AreExactBeyond k edges test choices answer
exact_permuted k built edges test choices answer same h = record {
  fills = λ small forward m some q far. h.fills small forward m some q (λ e o. far e (permuted built edges same e o));
  close = λ e o. stays_more k k built edges e (omega arith) (permuted built edges same) (h.close e o);
}

pub operand_exact : (k unit : ℕ) (fill : BooleanFillRule) (choices : Choices) (given : Given) (answer : List (List (List Point))) (old new : SplitCount) → IsCountedRegionOf k unit fill choices given answer old new →
    AreExactBeyond k (drawn_edges unit given) (λ m q. operand_holds unit fill m q given) choices answer
operand_exact k unit fill choices (as_paths paths) answer old new h = record { fills = h.near.fills; close = h.near.close }
operand_exact k unit fill choices (as_drawing (as_outline style paths)) answer old new h = record { fills = h.0.fills; close = h.0.close }
operand_exact k unit fill choices (as_drawing (as_stroke style closed paths)) answer old new h =
    exact_permuted k h.0.stroke.built (all_edges unit style closed paths) (wind_above (all_pieces unit style closed paths)) choices answer h.0.stroke.same
    (record { fills = h.0.fills; close = h.0.beyond.close })
operand_exact k unit fill choices (as_drawing (as_variable_stroke options paths)) answer old new h =
    exact_permuted k h.0.stroke.built (all_variable_edges unit options paths) (wind_above (all_variable_pieces unit options paths)) choices answer h.0.stroke.same
    (record { fills = h.0.fills; close = h.0.beyond.close })

once_held : (b : Bool) → int_lt (pos 0) (bit b) ≡ b
once_held true = refl
once_held false = refl

module _ (unit : ℕ) (fill : BooleanFillRule) (given : Given) (told : ToldRegion) (is : IsTold unit fill given told) where
  told_exact : AreExactBeyond told.nearness (drawn_edges unit given) (λ m q. operand_holds unit fill m q given) plain told.region
  told_exact = operand_exact told.nearness unit fill plain given told.region told.before told.after is

  -- its region holds what the operand holds, far from edges among which are those of the operand
  told_holds : (k : ℕ) (es : List Edge) → told.nearness ≤ k → ((e : Edge) → occurs e (drawn_edges unit given) ≡ true → occurs e es ≡ true) → (m : ℕ) → 0 < m → (q : Point) → IsFarFrom k m es q →
      holds_point told.region m q ≡ operand_holds unit fill m q given
  told_holds k es less among m some q far =
      ap (int_lt (pos 0))
      (told_exact.fills refl refl m some q (far_less told.nearness k m (drawn_edges unit given) q less (λ e o. far e (among e o))))
      ∙ once_held (operand_holds unit fill m q given)

  -- and stays near such edges
  told_near : (k : ℕ) (es : List Edge) → told.nearness ≤ k → ((e : Edge) → occurs e (drawn_edges unit given) ≡ true → occurs e es ≡ true) → (f : Edge) → occurs f (answer_edges told.region) ≡ true → StaysNear k es f
  told_near k es less among f o = stays_more told.nearness k (drawn_edges unit given) es f less among (told_exact.close f o)

-- ---- edges of either list

in_first : (es gs : List Edge) (e : Edge) → occurs e es ≡ true → occurs e (es ++ gs) ≡ true
in_first es gs e o = occurs_append e es gs ∙ or_left (occurs e es) (occurs e gs) o

in_second : (es gs : List Edge) (e : Edge) → occurs e gs ≡ true → occurs e (es ++ gs) ≡ true
in_second es gs e o = occurs_append e es gs ∙ or_right (occurs e es) (occurs e gs) o

by_either : {P : Type 0} (es gs : List Edge) (e : Edge) → (occurs e es ≡ true → P) → (occurs e gs ≡ true → P) → occurs e (es ++ gs) ≡ true → P
by_either es gs e first second o = ⊎_elim first second (or_cases (occurs e es) (occurs e gs) (sym (occurs_append e es gs) ∙ o))

proper_kept : (es : List Edge) (e : Edge) → occurs e (proper_edges es) ≡ true → occurs e es ≡ true
proper_kept es e o = kept (λ (f : Edge). not (same_point f.0 f.1)) es e o

-- ---- resolved again

-- edges that stay near those drawn are resolved: far from these the answer winds as it does far from them, and stays near
-- these; distances add up
exact_through : (k first last : ℕ) (drawn given : List Edge) (test own : ℕ → Point → Bool) (choices : Choices) (answer : List (List (List Point))) → k ≡ first + last →
    ((f : Edge) → occurs f given ≡ true → StaysNear first drawn f) → ((m : ℕ) → 0 < m → (q : Point) → IsFarFrom first m drawn q → own m q ≡ test m q) →
    AreExactBeyond last given own choices answer → AreExactBeyond k drawn test choices answer
exact_through k first last drawn given test own choices answer added near alike h = record {
  fills = λ small forward m some q far.
      h.fills small forward m some q (far_from_through first last m some drawn given q near (subst (λ (n : ℕ). IsFarFrom n m drawn q) added far))
      ∙ ap bit (alike m some q (far_less first k m drawn q (omega (arith, added)) far));
  close = λ e o.
      subst (λ (n : ℕ). StaysNear n drawn e) (sym added)
      (λ (m : ℕ) (some : 0 < m) (q : Point) (on : IsOn (refined_edge m e) q).
      let s = h.close e o m some q on in near_through first last m some drawn s.edge q (near s.edge s.listed) s.near);
}

-- ---- two operands

module _ (unit : ℕ) (fill : BooleanFill) (subject clip : Given) (first second : ToldRegion) (greater : ℕ) (s : IsTold unit fill.subject subject first) (t : IsTold unit fill.clip clip second) (u : first.nearness ≤ greater) (v : second.nearness ≤ greater) where
  abbrev both_drawn : List Edge
  both_drawn = drawn_edges unit subject ++ drawn_edges unit clip

  first_near : (f : Edge) → occurs f (answer_edges first.region) ≡ true → StaysNear greater both_drawn f
  first_near = told_near unit fill.subject subject first s greater both_drawn u (in_first (drawn_edges unit subject) (drawn_edges unit clip))

  second_near : (f : Edge) → occurs f (answer_edges second.region) ≡ true → StaysNear greater both_drawn f
  second_near = told_near unit fill.clip clip second t greater both_drawn v (in_second (drawn_edges unit subject) (drawn_edges unit clip))

  both_near : (by : Way) (f : Edge) → occurs f (edges_by by first.region second.region) ≡ true → StaysNear greater both_drawn f
  both_near way.Subject f o = first_near f (proper_kept (answer_edges first.region) f o)
  both_near way.Clip f o = second_near f (proper_kept (answer_edges second.region) f o)
  both_near (way.Together sense sum) f o =
      by_either (answer_edges first.region) (in_sense sense (answer_edges second.region)) f (first_near f) (λ p. second_near f (sensed sense (answer_edges second.region) f p))
      (proper_kept (answer_edges first.region ++ in_sense sense (answer_edges second.region)) f o)

  -- far from all edges drawn, the regions are combined as the operands are
  pub both_hold : (rule : BooleanRule) (m : ℕ) → 0 < m → (q : Point) → IsFarFrom greater m both_drawn q →
      combine rule (holds_point first.region m q) (holds_point second.region m q) ≡ is_kept unit rule fill subject clip m q
  both_hold rule m some q far =
      λ i. combine rule (told_holds unit fill.subject subject first s greater both_drawn u (in_first (drawn_edges unit subject) (drawn_edges unit clip)) m some q far i)
      (told_holds unit fill.clip clip second t greater both_drawn v (in_second (drawn_edges unit subject) (drawn_edges unit clip)) m some q far i)

  pub overlaid_exact : (k last : ℕ) (rule : BooleanRule) (choices : Choices) (answer : List (List (List Point))) → k ≡ greater + last → AreOverlaidRegionsBeyond last rule first.region second.region choices answer →
      AreExactBeyond k both_drawn (is_kept unit rule fill subject clip) choices answer
  overlaid_exact k last rule choices answer added h =
      exact_through k greater last both_drawn (edges_by (way_of rule) first.region second.region) (is_kept unit rule fill subject clip)
      (λ m q. combine rule (holds_point first.region m q) (holds_point second.region m q)) choices answer added (both_near (way_of rule)) (both_hold rule)
      (record { fills = h.fills; close = h.beyond.close })

-- ---- a boolean

pub both_exact : (k unit : ℕ) (rule : BooleanRule) (fill : BooleanFill) (choices : Choices) (subject clip : Given) (answer : List (List (List Point))) (old new : SplitCount) →
    IsOfBothWithin k unit choices (record { rule = rule; fill = fill; subject = subject; clip = clip }) answer old new → AreExactBeyond k (drawn_edges unit subject ++ drawn_edges unit clip) (is_kept unit rule fill subject clip) choices answer
both_exact k unit rule fill choices subject clip answer old new c =
    overlaid_exact unit fill subject clip c.first c.second (max c.first.nearness c.second.nearness) c.subject_alone c.clip_alone (omega arith) (omega arith) k c.last rule choices answer c.added c.together

pub boolean_exact : (k unit : ℕ) (rule : BooleanRule) (fill : BooleanFill) (choices : Choices) (subject clip : Given) (answer : List (List (List Point))) (old new : SplitCount) →
    IsBooleanWithin (way_of rule) k unit choices (record { rule = rule; fill = fill; subject = subject; clip = clip }) answer old new → AreExactBeyond k (edges_for (way_of rule) unit subject clip) (is_kept unit rule fill subject clip) choices answer
boolean_exact k unit by_rule.Subject fill choices subject clip answer old new h = operand_exact k unit fill.subject choices subject answer old new h
boolean_exact k unit by_rule.Clip fill choices subject clip answer old new h = operand_exact k unit fill.clip choices clip answer old new h
boolean_exact k unit by_rule.Intersect fill choices subject clip answer old new h = both_exact k unit by_rule.Intersect fill choices subject clip answer old new h
boolean_exact k unit by_rule.Union fill choices subject clip answer old new h = both_exact k unit by_rule.Union fill choices subject clip answer old new h
boolean_exact k unit by_rule.Difference fill choices subject clip answer old new h = both_exact k unit by_rule.Difference fill choices subject clip answer old new h
boolean_exact k unit by_rule.InverseDifference fill choices subject clip answer old new h = both_exact k unit by_rule.InverseDifference fill choices subject clip answer old new h
boolean_exact k unit by_rule.Xor fill choices subject clip answer old new h = both_exact k unit by_rule.Xor fill choices subject clip answer old new h

-- ---- zones

-- each was resolved with a nearness of at most `k`
abbrev pub AreWithin : ℕ → List ToldRegion → Type 0
AreWithin k told = All (λ (l : ℕ). l ≤ k) (map (λ (t : ToldRegion). t.nearness) told)

module _ (k unit : ℕ) (fill : BooleanFillRule) where
  pub first_within : (t : ToldRegion) (told : List ToldRegion) → AreWithin k (t ∷ told) → t.nearness ≤ k
  first_within t told most = All-head (λ (l : ℕ). l ≤ k) t.nearness (map (λ (t : ToldRegion). t.nearness) told) most

  pub others_within : (t : ToldRegion) (told : List ToldRegion) → AreWithin k (t ∷ told) → AreWithin k told
  others_within t told most = All-tail (λ (l : ℕ). l ≤ k) t.nearness (map (λ (t : ToldRegion). t.nearness) told) most

  -- the edges of the regions stay near those that are drawn of the zones, or of more
  zones_near : (drawn : List Edge) (zones : List Given) (told : List ToldRegion) → AllZip (IsTold unit fill) zones told → AreWithin k told →
      ((e : Edge) → occurs e (flat_map (drawn_edges unit) zones) ≡ true → occurs e drawn ≡ true) → (f : Edge) → occurs f (flat_map answer_edges (regions_in told)) ≡ true → StaysNear k drawn f
  zones_near drawn zones [] each most among f o = absurd (false≢true o)
  zones_near drawn [] (t ∷ told) each most among f o = absurd each
  zones_near drawn (zone ∷ zones) (t ∷ told) each most among f o =
      by_either (answer_edges t.region) (flat_map answer_edges (regions_in told)) f
      (told_near unit fill zone t each.0 k drawn (first_within t told most) (λ e p. among e (in_first (drawn_edges unit zone) (flat_map (drawn_edges unit) zones) e p)) f)
      (zones_near drawn zones told each.1 (others_within t told most) (λ e p. among e (in_second (drawn_edges unit zone) (flat_map (drawn_edges unit) zones) e p)) f)
      o

  -- as many regions as zones hold a point far from those edges
  zones_hold : (drawn : List Edge) (zones : List Given) (told : List ToldRegion) → AllZip (IsTold unit fill) zones told → AreWithin k told →
      ((e : Edge) → occurs e (flat_map (drawn_edges unit) zones) ≡ true → occurs e drawn ≡ true) → (m : ℕ) → 0 < m → (q : Point) → IsFarFrom k m drawn q →
      count_by (λ region. holds_point region m q) (regions_in told) ≡ count_by (operand_holds unit fill m q) zones
  zones_hold drawn [] [] each most among m some q far = refl
  zones_hold drawn (zone ∷ zones) [] each most among m some q far = absurd each
  zones_hold drawn [] (t ∷ told) each most among m some q far = absurd each
  zones_hold drawn (zone ∷ zones) (t ∷ told) each most among m some q far =
      let own : holds_point t.region m q ≡ operand_holds unit fill m q zone =
      told_holds unit fill zone t each.0 k drawn (first_within t told most) (λ e p. among e (in_first (drawn_edges unit zone) (flat_map (drawn_edges unit) zones) e p)) m some q far in
      let others : count_by (λ region. holds_point region m q) (regions_in told) ≡ count_by (operand_holds unit fill m q) zones =
      zones_hold drawn zones told each.1 (others_within t told most) (λ e p. among e (in_second (drawn_edges unit zone) (flat_map (drawn_edges unit) zones) e p)) m some q far in
      sum_by-cons (λ region. cond (holds_point region m q) 1 0) t.region (regions_in told)
      ∙ ((λ i. cond (own i) 1 0 + others i) ∙ sym (sum_by-cons (λ given. cond (operand_holds unit fill m q given) 1 0) zone zones))

pub coverage_exact : (k unit least : ℕ) (fill : BooleanFillRule) (choices : Choices) (zones : List Given) (answer : List (List (List Point))) (old new : SplitCount) →
    IsCoverageWithin k unit choices (record { least = least; fill = fill; zones = zones }) answer old new → AreExactBeyond k (flat_map (drawn_edges unit) zones) (is_covered unit least fill zones) choices answer
coverage_exact k unit least fill choices zones answer old new c =
    let drawn : List Edge = flat_map (drawn_edges unit) zones in
    exact_through k c.first c.last drawn (zone_edges (regions_in c.told)) (is_covered unit least fill zones)
    (λ m q. nat_le (max least 1) (count_by (λ region. holds_point region m q) (regions_in c.told))) choices answer c.added
    (λ f o. zones_near c.first unit fill drawn zones c.told c.each.each c.each.greatest.most (λ e p. p) f (proper_kept (flat_map answer_edges (regions_in c.told)) f o))
    (λ m some q far. ap (nat_le (max least 1)) (zones_hold c.first unit fill drawn zones c.told c.each.each c.each.greatest.most (λ e p. p) m some q far))
    (record { fills = c.covered.fills; close = c.covered.beyond.close })

-- ---- shapes

pub shapes_exact : (k unit : ℕ) (choices : Choices) (combined : Combined) (answer : List (List (List Point))) (old new : SplitCount) → AreCombinedShapesWithin k unit choices combined answer old new →
    AreExactShapes k unit choices combined answer
shapes_exact k unit choices (as_boolean rule fill subject clip) answer old new h = boolean_exact k unit rule fill choices subject clip answer old new h
shapes_exact k unit choices (as_coverage least fill zones) answer old new h = coverage_exact k unit least fill choices zones answer old new h
shapes_exact k unit choices (as_overlaps fill zones) answer old new h = absurd h
