-- How far drawings reach, and whether they stay in range. Coordinates are of a type with `unit`.
use Rattle.std.specs.Prelude.{ℕ, ◌≡◌, ℤ, Result, Ok, Err}
use Rattle.mesh_drawing.specs.Drawn.{Drawn}
use Rattle.mesh_drawing.specs.Paddings.{padding_in, DoesStayInRange}
use Rattle.mesh_arrays.specs.Outcomes.{outcome_of}
use Rattle.mesh_arrays.specs.Telling.{Draws}
use Rattle.mesh_arrays.specs.declared.failure.Failure.{Failure}
use Rattle.mesh_arrays.specs.declared.outcome.Outcome.{Outcome}
use Rattle.mesh_arrays.specs.declared.outcome.Outcome.TheVariants.{Answered, OutOfRange}

-- what a call leaves of the padding, and how it ends: the padding of the drawing is told, which stays in range or does
-- not; or none was read
pub data IsRangeTold (unit : ℕ) (read : Result Drawn Failure) (old new : ℤ) : Outcome → Type 0 where
  in_range : {drawn : Drawn} → read ≡ Ok drawn → DoesStayInRange unit drawn → new ≡ padding_in drawn
      → IsRangeTold unit read old new Answered
  out_of_range : {drawn : Drawn} → read ≡ Ok drawn → (DoesStayInRange unit drawn → ⊥) → new ≡ padding_in drawn
      → IsRangeTold unit read old new OutOfRange
  unread : {failure : Failure} → read ≡ Err failure → new ≡ old → IsRangeTold unit read old new (outcome_of failure)

-- a call for the range of the drawing that `asks` names
abbrev pub TellsRange : ℕ → (Drawn → Type 0) → ℤ → ℤ → ℕ → Type 0
TellsRange unit asks old new code = Draws asks (λ read ended. IsRangeTold unit read old new ended) code
