-- Lemmas over points and lists: booleans are exact away from the edges of their operands.
use Rattle.std.proofs.Common.{◌≡◌, ⊎_elim, ℕ, ◌+◌, ◌<◌, ◌≤◌, true, not, List, ◌++◌, length, refl, sym, ◌∙◌, ap, subst, arith}
use Rattle.std.specs.Prelude.{Bool, ℤ, max}
use Rattle.std.proofs.lemmas.Bool.{or_cases, or_left, or_right}
use Rattle.mesh_plane.specs.Plane.{Point, Edge}
use Rattle.mesh_plane.specs.Winding.{same_point, winding}
use Rattle.mesh_lattice.specs.Clean.{IsOn, refined_edge}
use Rattle.mesh_lattice.specs.Counted.{bit}
use Rattle.mesh_lattice.specs.FillRules.{filled_by}
use Rattle.mesh_lattice.specs.Nearness.{IsFarFrom, StaysNear}
use Rattle.mesh_lattice.specs.Split.{occurs}
use Rattle.mesh_lattice.specs.declared.fill.FillRule.{FillRule}
use Rattle.mesh_lattice.specs.declared.fill.WindingRule.{WindingRule}
use Rattle.mesh_lattice.proofs.NearEdges.{far_from_through, far_less, near_through, stays_more}
use Rattle.mesh_lattice.proofs.Splits.{occurs_append}
use Rattle.mesh_split.specs.declared.count.SplitCount.{SplitCount}
use Rattle.mesh_shapes.specs.Resolution.{Choices}
use Rattle.mesh_below.specs.Nearness.{AreCountedRegions}
use Rattle.mesh_below.specs.Options.{plain}
use Rattle.mesh_offset.specs.Adding.{answer_edges, in_sense}
use Rattle.mesh_offset.specs.Counting.{CountsAttempts, CountsStanding}
use Rattle.mesh_offset.specs.Regions.{WindsOnceWhere}
use Rattle.mesh_offset.proofs.Counting.{counts_fewer, counts_weaker, standing_fewer, standing_more, standing_of_one}
use Rattle.mesh_offset.proofs.Occurring.{kept, sensed}
use Rattle.mesh_boolean.specs.Booleans.{Operands, both_edges}
use Rattle.mesh_boolean.specs.Nearness.{AreBooleanRegionsBeyond, AreCombinedBeyond, AreCountedBooleanRegions, AreRegionsBeyondBy, IsBooleanDrawing, given_by, splits_by}
use Rattle.mesh_boolean.specs.Private.Steps.{AreCombinedCounted}
use Rattle.mesh_boolean.specs.Regions.{is_kept}
use Rattle.mesh_boolean.specs.Rules.{way_of}
use Rattle.mesh_boolean.specs.declared.rule.BooleanRule.{BooleanRule}
use Rattle.mesh_boolean.specs.declared.rule.Way.{Way}
use Rattle.mesh_boolean.specs.declared.rule.Way.TheVariants as way
use Rattle.mesh_boolean.proofs.Combining.{IsRuleFor, both_wind, rule_for}

-- the splits of the three resolvings are counted on, one after another
pub combined_counted : (sense : FillRule) (sum : WindingRule) (operands : Operands) (choices : Choices) (first second answer : List (List (List Point))) (k l greater last : ℕ) (old one two new : SplitCount) → greater ≡ max k l →
    AreCountedRegions k operands.subject operands.fills_subject plain first old one → AreCountedRegions l operands.clip operands.fills_clip plain second one two →
    AreCountedRegions last (both_edges sense first second) (filled_by sum) choices answer two new →
    AreCombinedCounted (greater + last) sense sum operands choices answer old new
combined_counted sense sum operands choices first second answer k l greater last old one two new is s t u = (
  record {
    first = first;
    second = second;
    by_subject = k;
    by_clip = l;
    last = last;
    added = ap (λ (n : ℕ). n + last) is;
    subject_alone = s.beyond;
    clip_alone = t.beyond;
    together = u.beyond;
  },
  standing_more (IsBooleanDrawing operands) 2 1 (length s.beyond.regions.resolution.splits + length t.beyond.regions.resolution.splits) (length u.beyond.regions.resolution.splits) old two new
      (standing_more (IsBooleanDrawing operands) 1 1 (length s.beyond.regions.resolution.splits) (length t.beyond.regions.resolution.splits) old one two
      (standing_of_one (IsBooleanDrawing operands) operands.subject s.beyond.regions.resolution.splits old one IsBooleanDrawing.subject_alone s.counted)
      (standing_of_one (IsBooleanDrawing operands) operands.clip t.beyond.regions.resolution.splits one two IsBooleanDrawing.clip_alone t.counted))
      (standing_of_one (IsBooleanDrawing operands) (both_edges sense first second) u.beyond.regions.resolution.splits two new
      (IsBooleanDrawing.together sense s.beyond.regions.resolution t.beyond.regions.resolution) u.counted),
)

-- attempts at one list of edges, as attempts on the way to a boolean
pub drawing_counts : (operands : Operands) (edges : List Edge) (old new : SplitCount) → IsBooleanDrawing operands edges →
    CountsAttempts 1 (λ (es : List Edge). es ≡ edges) old new → CountsAttempts 1 (IsBooleanDrawing operands) old new
drawing_counts operands edges old new drawing counts =
    counts_weaker 1 (λ (es : List Edge). es ≡ edges) (IsBooleanDrawing operands) (λ es is. subst (IsBooleanDrawing operands) (sym is) drawing) old new counts

pub drawing_fewer : (operands : Operands) (edges : List Edge) (old new : SplitCount) → IsBooleanDrawing operands edges →
    CountsAttempts 1 (λ (es : List Edge). es ≡ edges) old new → CountsAttempts 3 (IsBooleanDrawing operands) old new
drawing_fewer operands edges old new drawing counts =
    counts_fewer (IsBooleanDrawing operands) 1 3 (omega arith) old new (drawing_counts operands edges old new drawing counts)

-- the splits of one operand alone
pub alone_counted : (k : ℕ) (operands : Operands) (edges : List Edge) (fill : ℤ → Bool) (choices : Choices) (answer : List (List (List Point))) (old new : SplitCount) → IsBooleanDrawing operands edges →
    (standing : AreCountedRegions k edges fill choices answer old new) → CountsStanding 3 (IsBooleanDrawing operands) (length standing.beyond.regions.resolution.splits) old new
alone_counted k operands edges fill choices answer old new drawing standing =
    standing_fewer (IsBooleanDrawing operands) 1 3 (omega arith) _ old new
    (standing_of_one (IsBooleanDrawing operands) edges standing.beyond.regions.resolution.splits old new drawing standing.counted)

module _ (sense : FillRule) (sum : WindingRule) (operands : Operands) (choices : Choices) (answer : List (List (List Point))) (k : ℕ) (c : AreCombinedBeyond k sense sum operands choices answer) where
  in_subject : (e : Edge) → occurs e operands.subject ≡ true → occurs e (operands.subject ++ operands.clip) ≡ true
  in_subject e o = occurs_append e operands.subject operands.clip ∙ or_left _ _ o

  in_clip : (e : Edge) → occurs e operands.clip ≡ true → occurs e (operands.subject ++ operands.clip) ≡ true
  in_clip e o = occurs_append e operands.subject operands.clip ∙ or_right _ _ o

  -- what is resolved last stays near the edges of the operands
  last_near : (f : Edge) → occurs f (both_edges sense c.first c.second) ≡ true → StaysNear (max c.by_subject c.by_clip) (operands.subject ++ operands.clip) f
  last_near f o =
      ⊎_elim
      (λ (h : occurs f (answer_edges c.first) ≡ true).
      stays_more c.by_subject (max c.by_subject c.by_clip) operands.subject (operands.subject ++ operands.clip) f (omega arith) in_subject (c.subject_alone.close f h))
      (λ (h : occurs f (in_sense sense (answer_edges c.second)) ≡ true).
      stays_more c.by_clip (max c.by_subject c.by_clip) operands.clip (operands.subject ++ operands.clip) f (omega arith) in_clip
      (c.clip_alone.close f (sensed sense (answer_edges c.second) f h)))
      (or_cases (occurs f (answer_edges c.first)) (occurs f (in_sense sense (answer_edges c.second)))
      (sym (occurs_append f (answer_edges c.first) (in_sense sense (answer_edges c.second)))
      ∙ kept (λ (e : Edge). not (same_point e.0 e.1)) (answer_edges c.first ++ in_sense sense (answer_edges c.second)) f o))

  pub combined_close : (e : Edge) → occurs e (answer_edges answer) ≡ true → StaysNear k (operands.subject ++ operands.clip) e
  combined_close e o =
      subst (λ (n : ℕ). StaysNear n (operands.subject ++ operands.clip) e) (sym c.added)
      (λ (m : ℕ) (some : 0 < m) (q : Point) (on : IsOn (refined_edge m e) q).
      let near = c.together.close e o m some q on in
      near_through (max c.by_subject c.by_clip) c.last m some (operands.subject ++ operands.clip) near.edge q (last_near near.edge near.listed) near.near)

  pub combined_fills : (rule : BooleanRule) → IsRuleFor rule (way.Together sense sum) →
      WindsOnceWhere (is_kept rule operands) (λ m q. IsFarFrom k m (operands.subject ++ operands.clip) q) choices answer
  combined_fills rule law small forward m some q far =
      let added = c.added in
      let a = operands.fills_subject (winding m q operands.subject) in
      let b = operands.fills_clip (winding m q operands.clip) in
      let first : winding m q (answer_edges c.first) ≡ bit a =
      c.subject_alone.regions.answered refl refl m q
      ∙ c.subject_alone.exact m some q (far_less c.by_subject k m operands.subject q (omega (arith, added)) (λ e o. far e (in_subject e o))) in
      let second : winding m q (answer_edges c.second) ≡ bit b =
      c.clip_alone.regions.answered refl refl m q
      ∙ c.clip_alone.exact m some q (far_less c.by_clip k m operands.clip q (omega (arith, added)) (λ e o. far e (in_clip e o))) in
      c.together.regions.answered small forward m q
      ∙ (c.together.exact m some q
      (far_from_through (max c.by_subject c.by_clip) c.last m some (operands.subject ++ operands.clip) (both_edges sense c.first c.second) q last_near
      (subst (λ (n : ℕ). IsFarFrom n m (operands.subject ++ operands.clip) q) c.added far))
      ∙ ap bit (ap (filled_by sum) (both_wind m q sense c.first c.second (bit a) (bit b) first second) ∙ law a b))

module _ (k : ℕ) (operands : Operands) (choices : Choices) (answer : List (List (List Point))) where
  fills_by : (rule : BooleanRule) (by : Way) → IsRuleFor rule by → (beyond : AreRegionsBeyondBy k by operands choices answer) →
      WindsOnceWhere (is_kept rule operands) (λ m q. IsFarFrom k m (given_by by operands) q) choices answer
  fills_by rule way.Subject law beyond small forward m some q far =
      beyond.regions.answered small forward m q
      ∙ (beyond.exact m some q far
      ∙ ap bit (law (operands.fills_subject (winding m q operands.subject)) (operands.fills_clip (winding m q operands.clip))))
  fills_by rule way.Clip law beyond small forward m some q far =
      beyond.regions.answered small forward m q
      ∙ (beyond.exact m some q far
      ∙ ap bit (law (operands.fills_subject (winding m q operands.subject)) (operands.fills_clip (winding m q operands.clip))))
  fills_by rule (way.Together sense sum) law beyond small forward m some q far =
      combined_fills sense sum operands choices answer k beyond rule law small forward m some q far

  close_by : (by : Way) → AreRegionsBeyondBy k by operands choices answer → (e : Edge) → occurs e (answer_edges answer) ≡ true → StaysNear k (given_by by operands) e
  close_by way.Subject beyond = beyond.close
  close_by way.Clip beyond = beyond.close
  close_by (way.Together sense sum) beyond = combined_close sense sum operands choices answer k beyond

  -- a boolean that is carried out in its way
  pub boolean_counted : (rule : BooleanRule) (by : Way) (old new : SplitCount) → by ≡ way_of rule →
      (made : (beyond : AreRegionsBeyondBy k by operands choices answer) × CountsStanding 3 (IsBooleanDrawing operands) (splits_by k by operands choices answer beyond) old new) →
      AreCountedBooleanRegions k rule operands choices answer old new
  boolean_counted rule by old new is made =
      let own = subst (λ (by : Way). (beyond : AreRegionsBeyondBy k by operands choices answer) × CountsStanding 3 (IsBooleanDrawing operands) (splits_by k by operands choices answer beyond) old new) is made in
      record {
        near = record {
          beyond = own.0;
          fills = fills_by rule (way_of rule) (rule_for rule) own.0;
          close = close_by (way_of rule) own.0;
        };
        counted = own.1;
      }
