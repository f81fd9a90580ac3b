-- What is made of operands. Coordinates are of a type with `unit`.
use Rattle.std.specs.Prelude.{ℕ, List}
use Rattle.std.specs.List.{All, AllZip}
use Rattle.mesh_plane.specs.Plane.{Point}
use Rattle.mesh_num.specs.Paths.{shapes_of}
use Rattle.mesh_lattice.specs.FillRules.{filled_by}
use Rattle.mesh_lattice.specs.declared.fill.WindingRule.{WindingRule}
use Rattle.mesh_shapes.specs.Resolution.{Choices}
use Rattle.mesh_below.specs.Laws.{AreRegions}
use Rattle.mesh_below.specs.Options.{plain}
use Rattle.mesh_boolean.specs.Booleans.{ArePathsInRange, closed_edges}
use Rattle.mesh_boolean.specs.Overlaps.{AreOverlaps, Overlap, overlaps_of}
use Rattle.mesh_boolean.specs.Rules.{way_of, winding_rule_for}
use Rattle.mesh_boolean.specs.Zones.{AreCoveredRegions, AreOverlaidRegions}
use Rattle.mesh_boolean.specs.declared.rule.BooleanFill.{BooleanFill}
use Rattle.mesh_boolean.specs.declared.rule.BooleanFillRule.{BooleanFillRule}
use Rattle.mesh_boolean.specs.declared.rule.BooleanRule.{BooleanRule}
use Rattle.mesh_boolean.specs.declared.rule.Way.{Way}
use Rattle.mesh_boolean.specs.declared.rule.Way.TheVariants as way
use Rattle.mesh_drawing.specs.Drawings.{MayBeDrawn}
use Rattle.mesh_drawing.specs.Regions.{AreRegionsOf}
use Rattle.mesh_operands.specs.Operands.{Combined, Given, as_boolean, as_coverage, as_drawing, as_overlaps, as_paths}
use Rattle.mesh_operands.specs.declared.combine.CombinedAnswer.{CombinedAnswer}

-- ---- what may take part

-- an operand may take part: each point of contours is in the safe range, and a drawing may be drawn
abbrev pub MayTakePart : ℕ → Given → Type 0
MayTakePart unit (as_paths paths) = ArePathsInRange unit paths
MayTakePart unit (as_drawing drawn) = MayBeDrawn unit drawn

-- each operand may take part, also one that the rule of a boolean does not look at
abbrev pub MayBeCombined : ℕ → Combined → Type 0
MayBeCombined unit (as_boolean rule fill subject clip) = MayTakePart unit subject × MayTakePart unit clip
MayBeCombined unit (as_coverage least fill zones) = All (MayTakePart unit) zones
MayBeCombined unit (as_overlaps fill zones) = All (MayTakePart unit) zones

-- ---- one operand

-- the region of an operand: what contours fill by a rule, or the shapes of what is drawn
abbrev pub IsRegionOf : ℕ → WindingRule → Choices → Given → List (List (List Point)) → Type 0
IsRegionOf unit rule choices (as_paths paths) answer = AreRegions (closed_edges paths) (filled_by rule) choices answer
IsRegionOf unit rule choices (as_drawing drawn) answer = AreRegionsOf unit choices drawn answer

-- the regions of zones, each by this fill rule and with default options
abbrev pub AreRegionsOfZones : ℕ → BooleanFillRule → List Given → List (List (List (List Point))) → Type 0
AreRegionsOfZones unit fill zones regions = AllZip (IsRegionOf unit (winding_rule_for fill) plain) zones regions

-- ---- many operands

-- both operands are resolved alone, with default options; then their regions together, with the choices of the caller
pub record IsOfBoth (unit : ℕ) (rule : BooleanRule) (fill : BooleanFill) (choices : Choices) (subject clip : Given)
    (answer : List (List (List Point))) : Type 0 where
  pub first : List (List (List Point))
  pub second : List (List (List Point))
  pub subject_alone : IsRegionOf unit (winding_rule_for fill.subject) plain subject first
  pub clip_alone : IsRegionOf unit (winding_rule_for fill.clip) plain clip second
  pub together : AreOverlaidRegions rule first second choices answer

-- a boolean of two operands by the way in which its rule is carried out; one operand alone is resolved with the choices of
-- the caller
abbrev pub IsBooleanOf : Way → ℕ → BooleanRule → BooleanFill → Choices → Given → Given → List (List (List Point))
    → Type 0
IsBooleanOf way.Subject unit rule fill choices subject clip answer =
    IsRegionOf unit (winding_rule_for fill.subject) choices subject answer
IsBooleanOf way.Clip unit rule fill choices subject clip answer =
    IsRegionOf unit (winding_rule_for fill.clip) choices clip answer
IsBooleanOf (way.Together sense sum) unit rule fill choices subject clip answer =
    IsOfBoth unit rule fill choices subject clip answer

-- where at least so many zones cover the plane: each is resolved alone, then their regions together
pub record IsCoverageOf (unit least : ℕ) (fill : BooleanFillRule) (choices : Choices) (zones : List Given)
    (answer : List (List (List Point))) : Type 0 where
  pub regions : List (List (List (List Point)))
  pub each : AreRegionsOfZones unit fill zones regions
  pub covered : AreCoveredRegions least regions choices answer

-- where each two zones overlap: each is resolved alone, then the regions of each pair together
pub record AreOverlapsOf (unit : ℕ) (fill : BooleanFillRule) (choices : Choices) (zones : List Given)
    (found : List Overlap) : Type 0 where
  pub regions : List (List (List (List Point)))
  pub each : AreRegionsOfZones unit fill zones regions
  pub overlaps : AreOverlaps regions choices found

-- ---- combinations

-- what is answered: shapes, or pairs of zones and where they overlap
pub data Answered : Type 0 where
  as_shapes : List (List (List Point)) → Answered
  as_overlap_list : List Overlap → Answered

-- what the code's own answer stands for
abbrev pub answer_of : {C W U : Type 0} → CombinedAnswer C W U → Answered
answer_of (CombinedAnswer.Shapes shapes) = as_shapes (shapes_of shapes.items)
answer_of (CombinedAnswer.Overlaps found) = as_overlap_list (overlaps_of found.items)

-- the shapes are what is made of these operands, where shapes are asked for
abbrev pub AreCombinedShapes : ℕ → Choices → Combined → List (List (List Point)) → Type 0
AreCombinedShapes unit choices (as_boolean rule fill subject clip) answer =
    IsBooleanOf (way_of rule) unit rule fill choices subject clip answer
AreCombinedShapes unit choices (as_coverage least fill zones) answer =
    IsCoverageOf unit least fill choices zones answer
AreCombinedShapes unit choices (as_overlaps fill zones) answer = ⊥

-- the pairs are those of these operands that overlap, where these are asked for
abbrev pub AreCombinedOverlaps : ℕ → Choices → Combined → List Overlap → Type 0
AreCombinedOverlaps unit choices (as_boolean rule fill subject clip) found = ⊥
AreCombinedOverlaps unit choices (as_coverage least fill zones) found = ⊥
AreCombinedOverlaps unit choices (as_overlaps fill zones) found = AreOverlapsOf unit fill choices zones found

-- the answer is what is made of operands, with these choices
abbrev pub IsCombination : ℕ → Choices → Combined → Answered → Type 0
IsCombination unit choices combined (as_shapes answer) = AreCombinedShapes unit choices combined answer
IsCombination unit choices combined (as_overlap_list found) = AreCombinedOverlaps unit choices combined found
