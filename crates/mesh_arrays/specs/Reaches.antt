-- How near to their paths strokes hold points for certain, and what a call for that leaves. Coordinates are of a type with
-- `unit`.
use Rattle.std.specs.Prelude.{ℕ, ◌≡◌, ◌<◌, Bool, List, Option, Some, None, Result, Ok, Err}
use Rattle.std.specs.List.{All}
use Rattle.mesh_plane.specs.Plane.{Point}
use Rattle.mesh_stroke.specs.Styles.{StrokeStyle}
use Rattle.mesh_inner.specs.Inner.{HoldsWithin}
use Rattle.mesh_inner.specs.Told.{IsInnerReach}
use Rattle.mesh_drawing.specs.Drawn.{Drawn, as_outline, as_stroke, as_variable_stroke}
use Rattle.mesh_drawing.specs.Paddings.{DoesStayInRange}
use Rattle.mesh_arrays.specs.Telling.{Draws, LeavesNumber, TellsAnswer}
use Rattle.mesh_arrays.specs.declared.failure.Failure.{Failure}
use Rattle.mesh_arrays.specs.declared.failure.Failure.TheVariants.{Malformed, OutOfRange, OutOfMemory, TooManySplits}

-- a number that may be none, which 0 stands for
abbrev pub or_zero : Option ℕ → ℕ
or_zero None = 0
or_zero (Some s) = s

-- how near a stroke holds all points: the greatest number for which each section, join and cap leaves room, or 0 where
-- there is none; and where it is above 0, each point so near to a path is held
pub record IsStrokeReach (unit : ℕ) (style : StrokeStyle) (closed : Bool) (paths : List (List Point)) (reach : ℕ)
    : Type 0 where
  pub found : Option ℕ
  pub greatest : IsInnerReach unit style closed paths found
  pub told : reach ≡ or_zero found
  pub holds : 0 < reach → All (HoldsWithin unit style closed reach) paths

-- how near a drawing does: of what is no stroke nothing is told
abbrev pub IsReachOf : ℕ → Drawn → ℕ → Type 0
IsReachOf unit (as_outline style paths) reach = reach ≡ 0
IsReachOf unit (as_stroke style closed paths) reach = IsStrokeReach unit style closed paths reach
IsReachOf unit (as_variable_stroke options paths) reach = reach ≡ 0

-- the drawing stays in range, and holds points so near to its paths
pub record AnswersReach (unit : ℕ) (drawn : Drawn) (reach : ℕ) : Type 0 where
  pub accepted : DoesStayInRange unit drawn
  pub found : IsReachOf unit drawn reach

-- why nothing is answered: the drawing would not stay in range, or memory was refused
abbrev pub IsUnanswered : ℕ → Drawn → Failure → Type 0
IsUnanswered unit drawn Malformed = ⊥
IsUnanswered unit drawn OutOfRange = DoesStayInRange unit drawn → ⊥
IsUnanswered unit drawn OutOfMemory = Unit {0}
IsUnanswered unit drawn TooManySplits = ⊥

-- what is answered where the reach is asked for: what was not read fails as reading did
abbrev pub IsReachAnswer : ℕ → Result Drawn Failure → Result ℕ Failure → Type 0
IsReachAnswer unit (Err unread) answer = answer ≡ Err unread
IsReachAnswer unit (Ok drawn) (Ok reach) = AnswersReach unit drawn reach
IsReachAnswer unit (Ok drawn) (Err failure) = IsUnanswered unit drawn failure

-- a call for the reach of the drawing that `asks` names
abbrev pub TellsReach : ℕ → (Drawn → Type 0) → ℕ → ℕ → ℕ → Type 0
TellsReach unit asks old new code =
    Draws asks (λ read ended. TellsAnswer (IsReachAnswer unit read) LeavesNumber old new ended) code
