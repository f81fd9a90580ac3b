-- Why what is sought of a request is not read.
use Rattle.std.specs.Prelude.{◌≡◌, Bool, true, false, Option, Some, None, Result, MatchResult}
use Rattle.serde_json.specs.Data.{Data}
use Rattle.mesh_request.specs.Places.{IsPlaceIn}
use Rattle.mesh_request.specs.declared.error.ReadError.{ReadError}
use Rattle.mesh_request.specs.declared.error.ReadError.TheVariants.{Fault, OutOfMemory}

-- whether something is wrong with the request, and memory was not refused
abbrev pub is_fault : ReadError → Bool
is_fault (Fault fault) = true
is_fault OutOfMemory = false

-- what is wrong is wrong at a place of the request
abbrev pub IsPlaced : Data → ReadError → Type 0
IsPlaced d (Fault fault) = IsPlaceIn d fault.place
IsPlaced d OutOfMemory = Unit {0}

-- what is sought of a request is not read: if memory was not refused, it is not there, and a place of the request is
-- told
abbrev pub FailsToRead : {A : Type 0} → Data → Option A → ReadError → Type 0
FailsToRead d sought error = IsPlaced d error × (is_fault error ≡ true → sought ≡ None)

-- what is sought of a request is read, where `value` is what a value of the code stands for; or why it is not
abbrev pub Reads : {X A : Type 0} → Data → Option A → (X → A) → Result X ReadError → Type 0
Reads d sought value read = MatchResult read (λ x. sought ≡ Some (value x)) (FailsToRead d sought)
