-- Lemmas over points and lists: booleans wind where they keep points.
use Rattle.std.proofs.Common.{◌≡◌, ℕ, ◌<◌, Bool, true, false, List, ◌++◌, refl, sym, ◌∙◌, ap}
use Rattle.std.specs.Prelude.{ℤ, pos, ◌+ℤ◌, neg_ℤ}
use Rattle.mesh_plane.specs.Plane.{Point, Edge}
use Rattle.mesh_plane.specs.Winding.{crossing_on, winding}
use Rattle.mesh_plane.proofs.Crossings.{crossing_on_odd}
use Rattle.mesh_plane.proofs.Sums.{total_append}
use Rattle.mesh_num.specs.Segments.{proper_edges}
use Rattle.mesh_lattice.specs.Counted.{bit}
use Rattle.mesh_lattice.specs.FillRules.{filled_by}
use Rattle.mesh_lattice.specs.declared.fill.FillRule.{FillRule}
use Rattle.mesh_lattice.specs.declared.fill.FillRule.TheVariants.{Positive, Negative}
use Rattle.mesh_lattice.specs.declared.fill.WindingRule.{WindingRule}
use Rattle.mesh_shapes.specs.Resolution.{Choices}
use Rattle.mesh_offset.specs.Adding.{answer_edges, in_sense}
use Rattle.mesh_offset.specs.Regions.{WindsOnceWhere}
use Rattle.mesh_offset.proofs.Occurring.{back_total}
use Rattle.mesh_offset.proofs.ProperEdges.{proper_edges_total}
use Rattle.mesh_boolean.specs.Booleans.{Operands, both_edges}
use Rattle.mesh_boolean.specs.Regions.{AreBooleanRegions, AreCombinedRegions, AreRegionsBy, OutsideBentBy, is_kept}
use Rattle.mesh_boolean.specs.Rules.{combine, way_of}
use Rattle.mesh_boolean.specs.declared.rule.BooleanRule.{BooleanRule}
use Rattle.mesh_boolean.specs.declared.rule.BooleanRule.TheVariants as rule
use Rattle.mesh_boolean.specs.declared.rule.Way.{Way}
use Rattle.mesh_boolean.specs.declared.rule.Way.TheVariants as way

-- a winding in this sense
abbrev pub sensed_by : FillRule → ℤ → ℤ
sensed_by Positive w = w
sensed_by Negative w = neg_ℤ w

sense_total : (m : ℕ) (q : Point) (sense : FillRule) (es : List Edge) → winding m q (in_sense sense es) ≡ sensed_by sense (winding m q es)
sense_total m q Positive es = refl
sense_total m q Negative es = back_total m q es

-- both answers together wind as the first does, and the second in this sense
pub both_wind : (m : ℕ) (q : Point) (sense : FillRule) (first second : List (List (List Point))) (v w : ℤ) →
    winding m q (answer_edges first) ≡ v → winding m q (answer_edges second) ≡ w →
    winding m q (both_edges sense first second) ≡ v +ℤ sensed_by sense w
both_wind m q sense first second v w h k =
    proper_edges_total (crossing_on m q) (crossing_on_odd m q) (answer_edges first ++ in_sense sense (answer_edges second))
    ∙ (total_append (crossing_on m q) (answer_edges first) (in_sense sense (answer_edges second))
    ∙ (λ i. h i +ℤ (sense_total m q sense (answer_edges second) ∙ ap (sensed_by sense) k) i))

-- the last rule fills the sum of both where the boolean keeps the point
abbrev pub IsRuleFor : BooleanRule → Way → Type 0
IsRuleFor rule way.Subject = (a b : Bool) → a ≡ combine rule a b
IsRuleFor rule way.Clip = (a b : Bool) → b ≡ combine rule a b
IsRuleFor rule (way.Together sense sum) = (a b : Bool) → filled_by sum (bit a +ℤ sensed_by sense (bit b)) ≡ combine rule a b

intersect_is : IsRuleFor rule.Intersect (way_of rule.Intersect)
intersect_is true true = refl
intersect_is true false = refl
intersect_is false true = refl
intersect_is false false = refl

union_is : IsRuleFor rule.Union (way_of rule.Union)
union_is true true = refl
union_is true false = refl
union_is false true = refl
union_is false false = refl

difference_is : IsRuleFor rule.Difference (way_of rule.Difference)
difference_is true true = refl
difference_is true false = refl
difference_is false true = refl
difference_is false false = refl

inverseDifference_is : IsRuleFor rule.InverseDifference (way_of rule.InverseDifference)
inverseDifference_is true true = refl
inverseDifference_is true false = refl
inverseDifference_is false true = refl
inverseDifference_is false false = refl

xor_is : IsRuleFor rule.Xor (way_of rule.Xor)
xor_is true true = refl
xor_is true false = refl
xor_is false true = refl
xor_is false false = refl

pub rule_for : (rule : BooleanRule) → IsRuleFor rule (way_of rule)
rule_for rule.Subject = λ a b. refl
rule_for rule.Clip = λ a b. refl
rule_for rule.Intersect = intersect_is
rule_for rule.Union = union_is
rule_for rule.Difference = difference_is
rule_for rule.InverseDifference = inverseDifference_is
rule_for rule.Xor = xor_is

module _ (operands : Operands) (choices : Choices) (answer : List (List (List Point))) where
  -- a boolean is made of regions in the way in which it is carried out, so it winds where it keeps points
  by_way : (rule : BooleanRule) (by : Way) → IsRuleFor rule by → (regions : AreRegionsBy by operands choices answer) →
      WindsOnceWhere (is_kept rule operands) (λ m q. OutsideBentBy by operands choices answer regions m q) choices answer
  by_way rule way.Subject law regions small forward m some q out =
      regions.answered small forward m q
      ∙ (regions.given m some q out
      ∙ ap bit (law (operands.fills_subject (winding m q operands.subject)) (operands.fills_clip (winding m q operands.clip))))
  by_way rule way.Clip law regions small forward m some q out =
      regions.answered small forward m q
      ∙ (regions.given m some q out
      ∙ ap bit (law (operands.fills_subject (winding m q operands.subject)) (operands.fills_clip (winding m q operands.clip))))
  by_way rule (way.Together sense sum) law regions small forward m some q out =
      let a = operands.fills_subject (winding m q operands.subject) in
      let b = operands.fills_clip (winding m q operands.clip) in
      let first : winding m q (answer_edges regions.first) ≡ bit a =
      regions.subject_alone.answered refl refl m q ∙ regions.subject_alone.given m some q out.subject_alone in
      let second : winding m q (answer_edges regions.second) ≡ bit b =
      regions.clip_alone.answered refl refl m q ∙ regions.clip_alone.given m some q out.clip_alone in
      regions.together.answered small forward m q
      ∙ (regions.together.given m some q out.together
      ∙ ap bit (ap (filled_by sum) (both_wind m q sense regions.first regions.second (bit a) (bit b) first second) ∙ law a b))

  pub boolean_regions : (rule : BooleanRule) (by : Way) → by ≡ way_of rule → AreRegionsBy by operands choices answer →
      AreBooleanRegions rule operands choices answer
  boolean_regions rule by is regions =
      let own : AreRegionsBy (way_of rule) operands choices answer = rw is at regions in
      record { regions = own; fills = by_way rule (way_of rule) (rule_for rule) own }
