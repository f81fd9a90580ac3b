-- Where booleans wind.
use Rattle.std.specs.Prelude.{ℕ, Bool, List, int_lt, pos}
use Rattle.mesh_plane.specs.Plane.{Point}
use Rattle.mesh_plane.specs.Winding.{winding}
use Rattle.mesh_lattice.specs.FillRules.{filled_by}
use Rattle.mesh_lattice.specs.declared.fill.FillRule.{FillRule}
use Rattle.mesh_lattice.specs.declared.fill.WindingRule.{WindingRule}
use Rattle.mesh_regions.specs.Regions.{OutsideBent}
use Rattle.mesh_below.specs.Laws.{AreRegions}
use Rattle.mesh_below.specs.Options.{plain}
use Rattle.mesh_shapes.specs.Resolution.{Choices}
use Rattle.mesh_offset.specs.Adding.{answer_edges}
use Rattle.mesh_offset.specs.Regions.{WindsOnceWhere}
use Rattle.mesh_boolean.specs.Booleans.{Operands, both_edges}
use Rattle.mesh_boolean.specs.Rules.{combine, way_of}
use Rattle.mesh_boolean.specs.declared.rule.BooleanRule.{BooleanRule}
use Rattle.mesh_boolean.specs.declared.rule.Way.{Way}
use Rattle.mesh_boolean.specs.declared.rule.Way.TheVariants as way

-- a boolean keeps the point: by whether the windings of subject and clip are filled there
abbrev pub is_kept : BooleanRule → Operands → ℕ → Point → Bool
is_kept rule operands m q =
    combine rule (operands.fills_subject (winding m q operands.subject)) (operands.fills_clip (winding m q operands.clip))

-- both operands, resolved alone, and both together are made of regions
pub record AreCombinedRegions (sense : FillRule) (rule : WindingRule) (operands : Operands) (choices : Choices)
    (answer : List (List (List Point))) : Type 0 where
  pub first : List (List (List Point))
  pub second : List (List (List Point))
  pub subject_alone : AreRegions operands.subject operands.fills_subject plain first
  pub clip_alone : AreRegions operands.clip operands.fills_clip plain second
  pub together : AreRegions (both_edges sense first second) (filled_by rule) choices answer

-- the same by the way in which a boolean is carried out
abbrev pub AreRegionsBy : Way → Operands → Choices → List (List (List Point)) → Type 0
AreRegionsBy way.Subject operands choices answer = AreRegions operands.subject operands.fills_subject choices answer
AreRegionsBy way.Clip operands choices answer = AreRegions operands.clip operands.fills_clip choices answer
AreRegionsBy (way.Together sense rule) operands choices answer = AreCombinedRegions sense rule operands choices answer

-- the point is in the box of no edge that one of the three resolvings bent
pub record OutsideBentOfAll {sense : FillRule} {rule : WindingRule} {operands : Operands} {choices : Choices}
    {answer : List (List (List Point))} (regions : AreCombinedRegions sense rule operands choices answer) (m : ℕ)
    (q : Point) : Type 0 where
  pub subject_alone : OutsideBent regions.subject_alone.resolution.splits operands.subject m q
  pub clip_alone : OutsideBent regions.clip_alone.resolution.splits operands.clip m q
  pub together : OutsideBent regions.together.resolution.splits (both_edges sense regions.first regions.second) m q

-- the same by the way in which a boolean is carried out
abbrev pub OutsideBentBy : (by : Way) (operands : Operands) (choices : Choices) (answer : List (List (List Point)))
    → AreRegionsBy by operands choices answer → ℕ → Point → Type 0
OutsideBentBy way.Subject operands choices answer regions m q =
    OutsideBent regions.resolution.splits operands.subject m q
OutsideBentBy way.Clip operands choices answer regions m q = OutsideBent regions.resolution.splits operands.clip m q
OutsideBentBy (way.Together sense rule) operands choices answer regions m q = OutsideBentOfAll regions m q

-- the answer of a boolean is made of regions; at each point, on every grid, that is in the box of no bent edge, it winds
-- once where the boolean keeps the point, and nowhere else
pub record AreBooleanRegions (rule : BooleanRule) (operands : Operands) (choices : Choices)
    (answer : List (List (List Point))) : Type 0 where
  pub regions : AreRegionsBy (way_of rule) operands choices answer
  pub fills : WindsOnceWhere (is_kept rule operands)
      (λ m q. OutsideBentBy (way_of rule) operands choices answer regions m q) choices answer

-- an answer winds round the point
abbrev pub holds_point : List (List (List Point)) → ℕ → Point → Bool
holds_point answer m q = int_lt (pos 0) (winding m q (answer_edges answer))
