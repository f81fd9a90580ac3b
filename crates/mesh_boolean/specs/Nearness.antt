-- Booleans that are exact away from the edges of their operands. Distances are in 64ths of a grid unit.
use Rattle.std.specs.Prelude.{ℕ, ◌≡◌, ◌+◌, ◌++◌, true, List, length, max}
use Rattle.mesh_plane.specs.Plane.{Point, Edge}
use Rattle.mesh_lattice.specs.FillRules.{filled_by}
use Rattle.mesh_lattice.specs.Nearness.{IsFarFrom, StaysNear}
use Rattle.mesh_lattice.specs.Split.{occurs}
use Rattle.mesh_lattice.specs.declared.fill.FillRule.{FillRule}
use Rattle.mesh_lattice.specs.declared.fill.WindingRule.{WindingRule}
use Rattle.mesh_split.specs.declared.count.SplitCount.{SplitCount}
use Rattle.mesh_below.specs.Nearness.{AreRegionsBeyond}
use Rattle.mesh_below.specs.Options.{plain}
use Rattle.mesh_shapes.specs.Resolution.{Choices, IsResolution}
use Rattle.mesh_offset.specs.Adding.{answer_edges}
use Rattle.mesh_offset.specs.Counting.{CountsStanding}
use Rattle.mesh_offset.specs.Regions.{WindsOnceWhere}
use Rattle.mesh_boolean.specs.Booleans.{Operands, both_edges}
use Rattle.mesh_boolean.specs.Regions.{is_kept}
use Rattle.mesh_boolean.specs.Rules.{way_of}
use Rattle.mesh_boolean.specs.declared.rule.BooleanRule.{BooleanRule}
use Rattle.mesh_boolean.specs.declared.rule.Way.{Way}
use Rattle.mesh_boolean.specs.declared.rule.Way.TheVariants as way

-- both operands, resolved alone, and both together are exact away from their edges; `k` is the greater nearness of the
-- operands' own resolvings and that of the last one, added
pub record AreCombinedBeyond (k : ℕ) (sense : FillRule) (rule : WindingRule) (operands : Operands) (choices : Choices)
    (answer : List (List (List Point))) : Type 0 where
  pub first : List (List (List Point))
  pub second : List (List (List Point))
  pub by_subject : ℕ
  pub by_clip : ℕ
  pub last : ℕ
  pub added : k ≡ max by_subject by_clip + last
  pub subject_alone : AreRegionsBeyond by_subject operands.subject operands.fills_subject plain first
  pub clip_alone : AreRegionsBeyond by_clip operands.clip operands.fills_clip plain second
  pub together : AreRegionsBeyond last (both_edges sense first second) (filled_by rule) choices answer

-- the same by the way in which a boolean is carried out
abbrev pub AreRegionsBeyondBy : ℕ → Way → Operands → Choices → List (List (List Point)) → Type 0
AreRegionsBeyondBy k way.Subject operands choices answer =
    AreRegionsBeyond k operands.subject operands.fills_subject choices answer
AreRegionsBeyondBy k way.Clip operands choices answer =
    AreRegionsBeyond k operands.clip operands.fills_clip choices answer
AreRegionsBeyondBy k (way.Together sense rule) operands choices answer =
    AreCombinedBeyond k sense rule operands choices answer

-- the edges of the operands that are looked at
abbrev pub given_by : Way → Operands → List Edge
given_by way.Subject operands = operands.subject
given_by way.Clip operands = operands.clip
given_by (way.Together sense rule) operands = operands.subject ++ operands.clip

-- the answer of a boolean is exact at each point farther than `k` from each edge of the operands, on every grid: there it
-- winds once where the boolean keeps the point, and nowhere else; and each point of its contours lies within `k` of such
-- an edge
pub record AreBooleanRegionsBeyond (k : ℕ) (rule : BooleanRule) (operands : Operands) (choices : Choices)
    (answer : List (List (List Point))) : Type 0 where
  pub beyond : AreRegionsBeyondBy k (way_of rule) operands choices answer
  pub fills : WindsOnceWhere (is_kept rule operands) (λ m q. IsFarFrom k m (given_by (way_of rule) operands) q) choices
      answer
  pub close : (e : Edge) → occurs e (answer_edges answer) ≡ true → StaysNear k (given_by (way_of rule) operands) e

-- edges that are resolved on the way to a boolean: those of the subject, those of the clip, and those that answers of
-- both give together
pub data IsBooleanDrawing (operands : Operands) : List Edge → Type 0 where
  subject_alone : IsBooleanDrawing operands operands.subject
  clip_alone : IsBooleanDrawing operands operands.clip
  together : (sense : FillRule) {first second : List (List (List Point))}
      → IsResolution operands.subject operands.fills_subject plain first
      → IsResolution operands.clip operands.fills_clip plain second
      → IsBooleanDrawing operands (both_edges sense first second)

-- how many splits stand of all resolvings
abbrev pub splits_by : (k : ℕ) (by : Way) (operands : Operands) (choices : Choices) (answer : List (List (List Point)))
    → AreRegionsBeyondBy k by operands choices answer → ℕ
splits_by k way.Subject operands choices answer beyond = length beyond.regions.resolution.splits
splits_by k way.Clip operands choices answer beyond = length beyond.regions.resolution.splits
splits_by k (way.Together sense rule) operands choices answer beyond =
    length beyond.subject_alone.regions.resolution.splits + length beyond.clip_alone.regions.resolution.splits
    + length beyond.together.regions.resolution.splits

-- the same, and the splits that stand of all resolvings were counted on, each of them once, with those of attempts that
-- were given up
pub record AreCountedBooleanRegions (k : ℕ) (rule : BooleanRule) (operands : Operands) (choices : Choices)
    (answer : List (List (List Point))) (old new : SplitCount) : Type 0 where
  pub near : AreBooleanRegionsBeyond k rule operands choices answer
  pub counted : CountsStanding 3 (IsBooleanDrawing operands)
      (splits_by k (way_of rule) operands choices answer near.beyond) old new
