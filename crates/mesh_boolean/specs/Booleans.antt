-- What a boolean is: both operands are resolved alone, then their answers together.
use Rattle.std.specs.Prelude.{ℕ, ◌++◌, Bool, List, ℤ}
use Rattle.std.specs.List.{All, flat_map}
use Rattle.mesh_plane.specs.Bounds.{IsSafe}
use Rattle.mesh_plane.specs.Plane.{Point, Edge}
use Rattle.mesh_plane.specs.Winding.{boundary}
use Rattle.mesh_num.specs.Segments.{proper_edges}
use Rattle.mesh_lattice.specs.FillRules.{filled_by}
use Rattle.mesh_lattice.specs.declared.fill.FillRule.{FillRule}
use Rattle.mesh_lattice.specs.declared.fill.WindingRule.{WindingRule}
use Rattle.mesh_below.specs.Options.{plain}
use Rattle.mesh_shapes.specs.Resolution.{Choices, IsResolution}
use Rattle.mesh_offset.specs.Adding.{answer_edges, in_sense}
use Rattle.mesh_boolean.specs.Rules.{way_of, winding_rule_for}
use Rattle.mesh_boolean.specs.declared.rule.BooleanFill.{BooleanFill}
use Rattle.mesh_boolean.specs.declared.rule.BooleanRule.{BooleanRule}
use Rattle.mesh_boolean.specs.declared.rule.Way.{Way}
use Rattle.mesh_boolean.specs.declared.rule.Way.TheVariants as way

-- each point of each path is in the safe range
abbrev pub ArePathsInRange : ℕ → List (List Point) → Type 0
ArePathsInRange unit paths = All (λ (path : List Point). All (IsSafe unit) path) paths

-- the edges of closed contours, without those whose ends are one point
abbrev pub closed_edges : List (List Point) → List Edge
closed_edges paths = proper_edges (flat_map boundary paths)

-- the edges of both operands, and which of their windings are filled
pub record Operands : Type 0 where
  pub subject : List Edge
  pub clip : List Edge
  pub fills_subject : ℤ → Bool
  pub fills_clip : ℤ → Bool

-- those of two lists of closed contours
abbrev pub operands_of : BooleanFill → List (List Point) → List (List Point) → Operands
operands_of fill subject clip = record {
  subject = closed_edges subject;
  clip = closed_edges clip;
  fills_subject = filled_by (winding_rule_for fill.subject);
  fills_clip = filled_by (winding_rule_for fill.clip);
}

-- the edges of two answers, those of the second in this sense
abbrev pub both_edges : FillRule → List (List (List Point)) → List (List (List Point)) → List Edge
both_edges sense first second = proper_edges (answer_edges first ++ in_sense sense (answer_edges second))

-- each operand is resolved alone, by its own rule and with default options; then the edges of both answers, those of the
-- clip in this sense, are resolved by this rule and with the choices of the caller
pub record IsCombined (sense : FillRule) (rule : WindingRule) (operands : Operands) (choices : Choices)
    (answer : List (List (List Point))) : Type 0 where
  pub first : List (List (List Point))
  pub second : List (List (List Point))
  pub subject_alone : IsResolution operands.subject operands.fills_subject plain first
  pub clip_alone : IsResolution operands.clip operands.fills_clip plain second
  pub together : IsResolution (both_edges sense first second) (filled_by rule) choices answer

-- a boolean that is carried out so; one operand alone is resolved with the choices of the caller
abbrev pub IsBooleanBy : Way → Operands → Choices → List (List (List Point)) → Type 0
IsBooleanBy way.Subject operands choices answer = IsResolution operands.subject operands.fills_subject choices answer
IsBooleanBy way.Clip operands choices answer = IsResolution operands.clip operands.fills_clip choices answer
IsBooleanBy (way.Together sense rule) operands choices answer = IsCombined sense rule operands choices answer

-- an answer is a boolean of these operands
abbrev pub IsBoolean : BooleanRule → Operands → Choices → List (List (List Point)) → Type 0
IsBoolean rule = IsBooleanBy (way_of rule)
