-- Why there is no answer, and what is read.
use Rattle.std.specs.Prelude.{◌≡◌, Option, Some, None, Result, Ok, Err, MatchResult}
use Rattle.mesh_offset.specs.declared.error.IntNearnessError.{IntNearnessError}
use Rattle.mesh_offset.specs.declared.error.IntNearnessError.TheVariants as near
use Rattle.mesh_arrays.specs.declared.failure.Failure.{Failure}
use Rattle.mesh_arrays.specs.declared.failure.Failure.TheVariants.{Malformed, OutOfRange, OutOfMemory, TooManySplits}

-- the failure that an error of drawing is
abbrev pub failure_of : IntNearnessError → Failure
failure_of near.CoordinateOutOfRange = OutOfRange
failure_of near.OutOfMemory = OutOfMemory
failure_of near.TooManySplits = TooManySplits

-- what reading fails with: what is given stands for nothing, or memory was refused
abbrev pub IsOfReading : Failure → Type 0
IsOfReading Malformed = Unit {0}
IsOfReading OutOfMemory = Unit {0}
IsOfReading OutOfRange = ⊥
IsOfReading TooManySplits = ⊥

-- a failure to read: it is malformed only where nothing is meant, as `none` says
abbrev pub IsUnread : Type 0 → Failure → Type 0
IsUnread none failure = IsOfReading failure × (failure ≡ Malformed → none)

-- what is read is what is meant, as `IsMeant` says of what a value of the code stands for; or why nothing is read
abbrev pub IsRead : {X A : Type 0} → (X → A) → (A → Type 0) → Result X Failure → Type 0
IsRead {X} {A} value IsMeant read =
    MatchResult read (λ x. IsMeant (value x)) (IsUnread ((a : A) → IsMeant a → ⊥))

-- the same of what numbers say, if they say anything
abbrev pub IsReadOf : {X A : Type 0} → (X → A) → Option A → Result X Failure → Type 0
IsReadOf value said read = MatchResult read (λ x. said ≡ Some (value x)) (IsUnread (said ≡ None))

-- what was read, as what it stands for
abbrev pub read_as : {X A : Type 0} → (X → A) → Result X Failure → Result A Failure
read_as value (Ok x) = Ok (value x)
read_as value (Err failure) = Err failure
