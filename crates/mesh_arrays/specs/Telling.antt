-- What a call leaves in the caller's room, and how it ends.
use Rattle.std.specs.Prelude.{ℕ, ◌≡◌, ℤ, Result, Ok, Err}
use Rattle.mesh_drawing.specs.Drawn.{Drawn, drawn_of}
use Rattle.mesh_drawing.specs.declared.drawing.Drawing.{Drawing}
use Rattle.mesh_arrays.specs.Failures.{IsRead, read_as}
use Rattle.mesh_arrays.specs.Outcomes.{code_of, outcome_of}
use Rattle.mesh_arrays.specs.declared.failure.Failure.{Failure}
use Rattle.mesh_arrays.specs.declared.outcome.Outcome.{Outcome}
use Rattle.mesh_arrays.specs.declared.outcome.Outcome.TheVariants.{Answered, RoomTooSmall}

-- what lists leave in a room that held `old`: they are put over what stood there, where they fit; else all is as it was
pub data IsPut {L : Type 0} (Fit : L → L → Type 0) (over : L → L → L) (lists old new : L) : Outcome → Type 0 where
  whole : Fit lists old → new ≡ over lists old → IsPut Fit over lists old new Answered
  too_small : (Fit lists old → ⊥) → new ≡ old → IsPut Fit over lists old new RoomTooSmall

-- what an answer leaves in a room that held `old`, as `Leaves` says; where there is none, all is as it was, and the call
-- ends as the failure says
pub data IsTold {A R : Type 0} (Leaves : A → R → R → Outcome → Type 0) (answer : Result A Failure) (old new : R)
    : Outcome → Type 0 where
  told : {given : A} {ended : Outcome} → answer ≡ Ok given → Leaves given old new ended
      → IsTold Leaves answer old new ended
  refused : {failure : Failure} → answer ≡ Err failure → new ≡ old → IsTold Leaves answer old new (outcome_of failure)

-- a number is told as it is
pub data LeavesNumber (number old new : ℕ) : Outcome → Type 0 where
  told : new ≡ number → LeavesNumber number old new Answered

-- a call tells an answer, of which `IsAnswer` says what it may be
pub record TellsAnswer {A R : Type 0} (IsAnswer : Result A Failure → Type 0) (Leaves : A → R → R → Outcome → Type 0)
    (old new : R) (ended : Outcome) : Type 0 where
  pub answer : Result A Failure
  pub answered : IsAnswer answer
  pub left : IsTold Leaves answer old new ended

-- a call that returns a number ends as `Ends` says
abbrev pub Returns : (Outcome → Type 0) → ℕ → Type 0
Returns Ends code = (ended : Outcome) × (code ≡ code_of ended) × Ends ended

-- what a drawing stands for whose coordinates are whole numbers to contracts
abbrev pub whole_drawn : Drawing ℤ ℤ ℕ → Drawn
whole_drawn drawing = drawn_of (λ z. z) drawing

-- a call for the drawing that `asks` names ends as `Ends` says of what was read
abbrev pub Draws : (Drawn → Type 0) → (Result Drawn Failure → Outcome → Type 0) → ℕ → Type 0
Draws asks Ends code =
    (read : Result (Drawing ℤ ℤ ℕ) Failure) × IsRead whole_drawn asks read
    × Returns (Ends (read_as whole_drawn read)) code
