-- Booleans of contours in lists, and what is answered to calls for them. Coordinates are of a type with `unit`; `point_of`
-- is what the numbers for a point stand for.
use Rattle.std.specs.Prelude.{ℕ, ◌==◌, ◌≡◌, List, Option, Some, None, Result, Ok, Err, if◌then◌else◌, option_map}
use Rattle.mesh_plane.specs.Plane.{Point}
use Rattle.mesh_num.specs.Paths.{paths_of}
use Rattle.mesh_split.specs.Counting.{IsPastLimit, IsWithinLimit}
use Rattle.mesh_shapes.specs.Resolution.{Choices}
use Rattle.mesh_offset.specs.Counting.{CountsAttempts}
use Rattle.mesh_boolean.specs.Booleans.{ArePathsInRange, IsBoolean, Operands, operands_of}
use Rattle.mesh_boolean.specs.Nearness.{AreCountedBooleanRegions, IsBooleanDrawing}
use Rattle.mesh_boolean.specs.Regions.{AreBooleanRegions}
use Rattle.mesh_boolean.specs.declared.rule.BooleanFill.{BooleanFill}
use Rattle.mesh_boolean.specs.declared.rule.BooleanFillRule.{BooleanFillRule}
use Rattle.mesh_boolean.specs.declared.rule.BooleanFillRule.TheVariants as fill
use Rattle.mesh_boolean.specs.declared.rule.BooleanRule.{BooleanRule}
use Rattle.mesh_boolean.specs.declared.rule.BooleanRule.TheVariants as rule
use Rattle.mesh_drawing.specs.Nearness.{CountsUpTo}
use Rattle.mesh_drawing.specs.Parts.{both}
use Rattle.mesh_arrays.specs.EndToEnd.{HoldsShapes, PathLists, StandEndToEnd}
use Rattle.mesh_arrays.specs.Styles.{choices_in}
use Rattle.mesh_arrays.specs.declared.boolean.ContourBoolean.{ContourBoolean}
use Rattle.mesh_arrays.specs.declared.boolean.FlatBoolean.{FlatBoolean}
use Rattle.mesh_arrays.specs.declared.failure.Failure.{Failure}
use Rattle.mesh_arrays.specs.declared.failure.Failure.TheVariants.{Malformed, OutOfRange, OutOfMemory, TooManySplits}
use Rattle.mesh_arrays.specs.declared.near.NearFlatShapes.{NearFlatShapes}
use Rattle.mesh_arrays.specs.declared.options.FlatOptions.{FlatOptions}
use Rattle.mesh_arrays.specs.declared.shapes.FlatShapes.{FlatShapes}

-- ---- what is asked

-- a boolean of the contours of a subject and a clip, which are filled by a rule each
pub record Boolean : Type 0 where
  pub rule : BooleanRule
  pub fill : BooleanFill
  pub subject : List (List Point)
  pub clip : List (List Point)

-- what the code's own type stands for
abbrev pub boolean_of : {C W U : Type 0} → ContourBoolean C W U → Boolean
boolean_of b = record { rule = b.rule; fill = b.fill; subject = paths_of b.subject.items; clip = paths_of b.clip.items }

-- which points are kept: 0 the subject, 1 the clip, 2 both, 3 one or both, 4 the subject alone, 5 the clip alone, 6 one
-- of them alone
abbrev pub rule_in : ℕ → Option BooleanRule
rule_in n =
    if n == 0 then Some rule.Subject
    else (if n == 1 then Some rule.Clip
    else (if n == 2 then Some rule.Intersect
    else (if n == 3 then Some rule.Union
    else (if n == 4 then Some rule.Difference
    else (if n == 5 then Some rule.InverseDifference
    else (if n == 6 then Some rule.Xor else None))))))

-- which windings are filled: 0 the odd ones, 1 those other than 0, 2 those above 0, 3 those below 0
abbrev pub fill_rule_in : ℕ → Option BooleanFillRule
fill_rule_in n =
    if n == 0 then Some fill.EvenOdd
    else (if n == 1 then Some fill.NonZero
    else (if n == 2 then Some fill.Positive
    else (if n == 3 then Some fill.Negative else None)))

abbrev pub fills_with : BooleanFillRule × BooleanFillRule → BooleanFill
fills_with said = record { subject = said.0; clip = said.1 }

abbrev pub fills_in : FlatBoolean → Option BooleanFill
fills_in asked = option_map fills_with (both (fill_rule_in asked.subject_fill) (fill_rule_in asked.clip_fill))

-- the boolean by these rules of contours that stand end to end
pub record IsBooleanOf {F : Type 0} (point_of : F → Point) (subject clip : PathLists F) (asked : FlatBoolean)
    (boolean : Boolean) : Type 0 where
  pub ruled : rule_in asked.rule ≡ Some boolean.rule
  pub filled : fills_in asked ≡ Some boolean.fill
  pub of_subject : StandEndToEnd point_of boolean.subject subject
  pub of_clip : StandEndToEnd point_of boolean.clip clip

-- ---- what is answered

-- each point of both operands is in the safe range
pub record AreOperandsInRange (unit : ℕ) (boolean : Boolean) : Type 0 where
  pub subject : ArePathsInRange unit boolean.subject
  pub clip : ArePathsInRange unit boolean.clip

abbrev pub operands_in : Boolean → Operands
operands_in boolean = operands_of boolean.fill boolean.subject boolean.clip

-- why a boolean is not answered: the options are `missing`; an operand is out of range; memory was refused; or it was
-- given up
abbrev pub IsFailureOf : ℕ → Type 0 → Type 0 → Boolean → Failure → Type 0
IsFailureOf unit missing given_up boolean Malformed = missing
IsFailureOf unit missing given_up boolean OutOfRange = AreOperandsInRange unit boolean → ⊥
IsFailureOf unit missing given_up boolean OutOfMemory = Unit {0}
IsFailureOf unit missing given_up boolean TooManySplits = given_up

-- the lists hold the shapes, with these choices, that the boolean keeps of operands that are in range
pub record AnswersBoolean {F : Type 0} (unit : ℕ) (point_of : F → Point) (choices : Option Choices) (boolean : Boolean)
    (flat : FlatShapes F) : Type 0 where
  pub chosen : Choices
  pub said : choices ≡ Some chosen
  pub accepted : AreOperandsInRange unit boolean
  pub shapes : List (List (List Point))
  pub resolution : IsBoolean boolean.rule (operands_in boolean) chosen shapes
  pub regions : AreBooleanRegions boolean.rule (operands_in boolean) chosen shapes
  pub held : HoldsShapes point_of flat shapes

-- what is answered where the shapes of a boolean are asked for, with these options: what was not read fails as reading did
abbrev pub IsBooleanAnswer : {F : Type 0} → ℕ → (F → Point) → FlatOptions → Result Boolean Failure
    → Result (FlatShapes F) Failure → Type 0
IsBooleanAnswer unit point_of options (Err unread) answer = answer ≡ Err unread
IsBooleanAnswer unit point_of options (Ok boolean) (Ok flat) =
    AnswersBoolean unit point_of (choices_in unit options) boolean flat
IsBooleanAnswer unit point_of options (Ok boolean) (Err failure) =
    IsFailureOf unit (choices_in unit options ≡ None) ⊥ boolean failure

-- the lists hold the shapes, with these choices, that the boolean keeps; they are exact farther than the nearness that is
-- told, in 64ths of a grid unit, from each edge of the operands, and took no more splits than they might
pub record AnswersNearBoolean {F : Type 0} (unit : ℕ) (point_of : F → Point) (choices : Option Choices) (most : ℕ)
    (boolean : Boolean) (near : NearFlatShapes F) : Type 0 where
  pub chosen : Choices
  pub said : choices ≡ Some chosen
  pub accepted : AreOperandsInRange unit boolean
  pub shapes : List (List (List Point))
  pub regions :
      CountsUpTo most (AreCountedBooleanRegions near.nearness boolean.rule (operands_in boolean) chosen shapes)
      IsWithinLimit
  pub held : HoldsShapes point_of near.shapes shapes

-- the operands, with choices that are some, are in range, and the boolean took more splits than a limit that is set
pub record IsGivenUp (unit : ℕ) (choices : Option Choices) (most : ℕ) (boolean : Boolean) : Type 0 where
  pub chosen : Choices
  pub said : choices ≡ Some chosen
  pub accepted : AreOperandsInRange unit boolean
  pub past : CountsUpTo most (CountsAttempts 3 (IsBooleanDrawing (operands_in boolean))) IsPastLimit

-- what is answered where shapes with their nearness are asked for, with these options, by at most so many splits, or any
-- number where that is 0
abbrev pub IsNearBooleanAnswer : {F : Type 0} → ℕ → (F → Point) → FlatOptions → ℕ → Result Boolean Failure
    → Result (NearFlatShapes F) Failure → Type 0
IsNearBooleanAnswer unit point_of options most (Err unread) answer = answer ≡ Err unread
IsNearBooleanAnswer unit point_of options most (Ok boolean) (Ok near) =
    AnswersNearBoolean unit point_of (choices_in unit options) most boolean near
IsNearBooleanAnswer unit point_of options most (Ok boolean) (Err failure) =
    IsFailureOf unit (choices_in unit options ≡ None) (IsGivenUp unit (choices_in unit options) most boolean) boolean
    failure
