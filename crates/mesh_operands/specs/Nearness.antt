-- What is made of operands, exact away from their edges, with one count of splits through all resolvings. Distances are in
-- 64ths of a grid unit. Coordinates are of a type with `unit`.
use Rattle.std.specs.Prelude.{ℕ, ◌≡◌, ◌+◌, ◌*◌, List, [], ◌∷◌, length, map, max}
use Rattle.std.specs.List.{AllZip, Contains, sum_by}
use Rattle.mesh_plane.specs.Plane.{Point, Edge}
use Rattle.mesh_lattice.specs.FillRules.{filled_by}
use Rattle.mesh_lattice.specs.declared.fill.WindingRule.TheVariants as winding_rule
use Rattle.mesh_split.specs.declared.count.SplitCount.{SplitCount}
use Rattle.mesh_shapes.specs.Resolution.{Choices}
use Rattle.mesh_below.specs.Nearness.{AreCountedRegions}
use Rattle.mesh_below.specs.Options.{plain}
use Rattle.mesh_offset.specs.Counting.{CountsAttempts}
use Rattle.mesh_outline.specs.Nearness.{IsGreatest, IsOutlineDrawing}
use Rattle.mesh_stroke.specs.Resolved.{AreAllEdges}
use Rattle.mesh_variable_stroke.specs.Resolved.{AreAllEdges as AreAllVariableEdges}
use Rattle.mesh_boolean.specs.Booleans.{operands_of}
use Rattle.mesh_boolean.specs.Nearness.{AreCountedBooleanRegions, IsBooleanDrawing}
use Rattle.mesh_boolean.specs.Overlaps.{AreOverlapsBeyond, IsPairDrawing, Overlap}
use Rattle.mesh_boolean.specs.Rules.{way_of}
use Rattle.mesh_boolean.specs.Zones.{AreCoveredRegionsBeyond, AreOverlaidRegionsBeyond, edges_by, rule_by, zone_edges}
use Rattle.mesh_boolean.specs.declared.rule.BooleanFill.{BooleanFill}
use Rattle.mesh_boolean.specs.declared.rule.BooleanFillRule.{BooleanFillRule}
use Rattle.mesh_boolean.specs.declared.rule.BooleanRule.{BooleanRule}
use Rattle.mesh_boolean.specs.declared.rule.BooleanRule.TheVariants.{Subject}
use Rattle.mesh_boolean.specs.declared.rule.Way.{Way}
use Rattle.mesh_boolean.specs.declared.rule.Way.TheVariants as way
use Rattle.mesh_drawing.specs.Drawn.{as_outline, as_stroke, as_variable_stroke}
use Rattle.mesh_drawing.specs.Nearness.{AreCountedShapes}
use Rattle.mesh_operands.specs.Combining.{Answered, as_overlap_list, as_shapes}
use Rattle.mesh_operands.specs.Operands.{Combined, Given, GivenBoolean, GivenCoverage}
use Rattle.mesh_operands.specs.Operands.{as_boolean, as_coverage, as_drawing, as_overlaps, as_paths}

-- ---- one operand

-- one fill rule for both operands of a boolean
abbrev pub alike : BooleanFillRule → BooleanFill
alike fill = record { subject = fill; clip = fill }

-- the region of an operand, exact farther than `k` from its edges, and the splits that it comes of were counted on; that
-- of contours is the boolean that keeps them
abbrev pub IsCountedRegionOf : ℕ → ℕ → BooleanFillRule → Choices → Given → List (List (List Point)) → SplitCount
    → SplitCount → Type 0
IsCountedRegionOf k unit fill choices (as_paths paths) answer =
    AreCountedBooleanRegions k Subject (operands_of (alike fill) paths paths) choices answer
IsCountedRegionOf k unit fill choices (as_drawing drawn) answer = AreCountedShapes k unit choices drawn answer

-- what is told of an operand: its region by default options, how near that is, and the count before and after
pub record ToldRegion : Type 0 where
  pub region : List (List (List Point))
  pub nearness : ℕ
  pub before : SplitCount
  pub after : SplitCount

-- it is so
abbrev pub IsTold : ℕ → BooleanFillRule → Given → ToldRegion → Type 0
IsTold unit fill given told = IsCountedRegionOf told.nearness unit fill plain given told.region told.before told.after

-- one was resolved after another: each count begins where the one before it ended
abbrev pub AreInTurn : SplitCount → SplitCount → List ToldRegion → Type 0
AreInTurn old new [] = old ≡ new
AreInTurn old new (told ∷ more) = (told.before ≡ old) × AreInTurn told.after new more

-- the regions of operands
abbrev pub regions_in : List ToldRegion → List (List (List (List Point)))
regions_in told = map (λ (t : ToldRegion). t.region) told

-- what is told of zones, which were resolved one after another; `k` is the greatest nearness of all
pub record AreToldZones (k unit : ℕ) (fill : BooleanFillRule) (zones : List Given) (told : List ToldRegion)
    (old new : SplitCount) : Type 0 where
  pub each : AllZip (IsTold unit fill) zones told
  pub turn : AreInTurn old new told
  pub greatest : IsGreatest k (map (λ (t : ToldRegion). t.nearness) told)

-- ---- many operands

-- both operands are resolved alone, with default options, then their regions together, with the choices of the caller;
-- `k` is the greater nearness of the operands and that of the last resolving, added
pub record IsOfBothWithin (k unit : ℕ) (choices : Choices) (asked : GivenBoolean)
    (answer : List (List (List Point))) (old new : SplitCount) : Type 0 where
  pub first : ToldRegion
  pub second : ToldRegion
  pub last : ℕ
  pub added : k ≡ max first.nearness second.nearness + last
  pub subject_alone : IsTold unit asked.fill.subject asked.subject first
  pub clip_alone : IsTold unit asked.fill.clip asked.clip second
  pub turn : (first.before ≡ old) × (second.before ≡ first.after)
  pub together : AreOverlaidRegionsBeyond last asked.rule first.region second.region choices answer
  pub counted : AreCountedRegions last (edges_by (way_of asked.rule) first.region second.region)
      (filled_by (rule_by (way_of asked.rule))) choices answer second.after new

-- a boolean of two operands by the way in which its rule is carried out; one operand alone is resolved with the choices of
-- the caller
abbrev pub IsBooleanWithin : Way → ℕ → ℕ → Choices → GivenBoolean → List (List (List Point)) → SplitCount → SplitCount
    → Type 0
IsBooleanWithin way.Subject k unit choices asked answer =
    IsCountedRegionOf k unit asked.fill.subject choices asked.subject answer
IsBooleanWithin way.Clip k unit choices asked answer =
    IsCountedRegionOf k unit asked.fill.clip choices asked.clip answer
IsBooleanWithin (way.Together sense sum) k unit choices asked answer = IsOfBothWithin k unit choices asked answer

-- where at least so many zones cover the plane; `k` is the greatest nearness of the zones and that of the last resolving,
-- added
pub record IsCoverageWithin (k unit : ℕ) (choices : Choices) (asked : GivenCoverage)
    (answer : List (List (List Point))) (old new : SplitCount) : Type 0 where
  pub told : List ToldRegion
  pub first : ℕ
  pub last : ℕ
  pub between : SplitCount
  pub added : k ≡ first + last
  pub each : AreToldZones first unit asked.fill asked.zones told old between
  pub covered : AreCoveredRegionsBeyond last asked.least (regions_in told) choices answer
  pub counted : AreCountedRegions last (zone_edges (regions_in told)) (filled_by (winding_rule.AtLeast asked.least))
      choices answer between new

-- where each two zones overlap, given with the rule that fills them; `k` is the greatest nearness of the zones and the
-- greatest of the pairs, added
pub record AreOverlapsWithin (k unit : ℕ) (choices : Choices) (given : BooleanFillRule × List Given)
    (found : List Overlap) (old new : SplitCount) : Type 0 where
  pub told : List ToldRegion
  pub first : ℕ
  pub last : ℕ
  pub between : SplitCount
  pub added : k ≡ first + last
  pub each : AreToldZones first unit given.0 given.1 told old between
  pub overlaps : AreOverlapsBeyond last (regions_in told) choices found between new
  pub counted : CountsAttempts (length given.1 * length given.1) (IsPairDrawing (regions_in told)) between new

-- the shapes are what is made of these operands, where shapes are asked for
abbrev pub AreCombinedShapesWithin : ℕ → ℕ → Choices → Combined → List (List (List Point)) → SplitCount → SplitCount
    → Type 0
AreCombinedShapesWithin k unit choices (as_boolean rule fill subject clip) answer =
    IsBooleanWithin (way_of rule) k unit choices
    (record { rule = rule; fill = fill; subject = subject; clip = clip }) answer
AreCombinedShapesWithin k unit choices (as_coverage least fill zones) answer =
    IsCoverageWithin k unit choices (record { least = least; fill = fill; zones = zones }) answer
AreCombinedShapesWithin k unit choices (as_overlaps fill zones) answer = λ old new. ⊥

-- the pairs are those of these operands that overlap, where these are asked for
abbrev pub AreCombinedOverlapsWithin : ℕ → ℕ → Choices → Combined → List Overlap → SplitCount → SplitCount → Type 0
AreCombinedOverlapsWithin k unit choices (as_boolean rule fill subject clip) found = λ old new. ⊥
AreCombinedOverlapsWithin k unit choices (as_coverage least fill zones) found = λ old new. ⊥
AreCombinedOverlapsWithin k unit choices (as_overlaps fill zones) found =
    AreOverlapsWithin k unit choices (fill, zones) found

-- the answer is what is made of operands, with these choices, exact but for `k`, and all splits were counted on
abbrev pub IsCombinationWithin : ℕ → ℕ → Choices → Combined → Answered → SplitCount → SplitCount → Type 0
IsCombinationWithin k unit choices combined (as_shapes answer) =
    AreCombinedShapesWithin k unit choices combined answer
IsCombinationWithin k unit choices combined (as_overlap_list found) =
    AreCombinedOverlapsWithin k unit choices combined found

-- ---- attempts that were counted

-- edges that are resolved on the way to the region of an operand
abbrev pub IsRegionDrawing : ℕ → BooleanFillRule → Given → List Edge → Type 0
IsRegionDrawing unit fill (as_paths paths) = IsBooleanDrawing (operands_of (alike fill) paths paths)
IsRegionDrawing unit fill (as_drawing (as_outline style paths)) = IsOutlineDrawing unit style paths
IsRegionDrawing unit fill (as_drawing (as_stroke style closed paths)) = AreAllEdges unit style closed paths
IsRegionDrawing unit fill (as_drawing (as_variable_stroke options paths)) = AreAllVariableEdges unit options paths

-- how many lists of edges these are at most
abbrev pub lists_of : Given → ℕ
lists_of (as_paths paths) = 3
lists_of (as_drawing (as_outline style paths)) = length paths + 1
lists_of (as_drawing (as_stroke style closed paths)) = 1
lists_of (as_drawing (as_variable_stroke options paths)) = 1

-- edges that are resolved on the way to a boolean: those of one operand, or those of the regions of both together
pub data IsBothDrawing (unit : ℕ) (rule : BooleanRule) (fill : BooleanFill) (subject clip : Given)
    : List Edge → Type 0 where
  of_subject : {edges : List Edge} → IsRegionDrawing unit fill.subject subject edges
      → IsBothDrawing unit rule fill subject clip edges
  of_clip : {edges : List Edge} → IsRegionDrawing unit fill.clip clip edges
      → IsBothDrawing unit rule fill subject clip edges
  together : (first second : ToldRegion) → IsTold unit fill.subject subject first → IsTold unit fill.clip clip second
      → IsBothDrawing unit rule fill subject clip (edges_by (way_of rule) first.region second.region)

-- the same of one of some zones
abbrev pub IsZoneDrawing : ℕ → BooleanFillRule → List Given → List Edge → Type 0
IsZoneDrawing unit fill zones edges = (zone : Given) × Contains zones zone × IsRegionDrawing unit fill zone edges

-- edges that are resolved on the way to what is made of zones: those of one zone, or edges that the regions of all give
pub data IsZonesDrawing (unit : ℕ) (fill : BooleanFillRule) (zones : List Given)
    (IsGiven : List (List (List (List Point))) → List Edge → Type 0) : List Edge → Type 0 where
  of_zone : {edges : List Edge} → IsZoneDrawing unit fill zones edges → IsZonesDrawing unit fill zones IsGiven edges
  together : {edges : List Edge} (told : List ToldRegion) → AllZip (IsTold unit fill) zones told
      → IsGiven (regions_in told) edges → IsZonesDrawing unit fill zones IsGiven edges

-- edges that are resolved on the way to what is made of operands
abbrev pub IsCombinedDrawing : ℕ → Combined → List Edge → Type 0
IsCombinedDrawing unit (as_boolean rule fill subject clip) = IsBothDrawing unit rule fill subject clip
IsCombinedDrawing unit (as_coverage least fill zones) =
    IsZonesDrawing unit fill zones (λ regions edges. edges ≡ zone_edges regions)
IsCombinedDrawing unit (as_overlaps fill zones) = IsZonesDrawing unit fill zones IsPairDrawing

-- how many lists of edges these are at most: of a boolean one for both operands together, of overlaps one for each pair
abbrev pub all_lists : Combined → ℕ
all_lists (as_boolean rule fill subject clip) = lists_of subject + lists_of clip + 1
all_lists (as_coverage least fill zones) = sum_by lists_of zones + 1
all_lists (as_overlaps fill zones) = sum_by lists_of zones + length zones * length zones
