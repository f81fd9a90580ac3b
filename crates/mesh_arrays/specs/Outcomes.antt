-- How calls end, as numbers.
use Rattle.std.specs.Prelude.{ℕ}
use Rattle.mesh_arrays.specs.declared.failure.Failure.{Failure}
use Rattle.mesh_arrays.specs.declared.failure.Failure.TheVariants as failure
use Rattle.mesh_arrays.specs.declared.outcome.Outcome.{Outcome}
use Rattle.mesh_arrays.specs.declared.outcome.Outcome.TheVariants.{Answered, OutOfRange, Malformed, OutOfMemory, TooManySplits}
use Rattle.mesh_arrays.specs.declared.outcome.Outcome.TheVariants.{RoomTooSmall}

-- the number that other languages see
abbrev pub code_of : Outcome → ℕ
code_of Answered = 0
code_of OutOfRange = 1
code_of Malformed = 2
code_of OutOfMemory = 3
code_of TooManySplits = 4
code_of RoomTooSmall = 5

-- how a call ends that meets a failure
abbrev pub outcome_of : Failure → Outcome
outcome_of failure.Malformed = Malformed
outcome_of failure.OutOfRange = OutOfRange
outcome_of failure.OutOfMemory = OutOfMemory
outcome_of failure.TooManySplits = TooManySplits
