-- What is answered to a request's bytes.
use Rattle.std.specs.Prelude.{ℕ, ◌≡◌, ◌<◌, false, List, length}
use Rattle.mesh_offset.specs.declared.error.IntOutlineError.TheVariants.{CoordinateOutOfRange}
use Rattle.mesh_offset.specs.declared.error.IntOutlineError.TheVariants.{OutOfMemory as MemoryRefused}
use Rattle.mesh_request.specs.Failures.{failure_line}
use Rattle.mesh_request.specs.declared.failure.Failure.{Failure}
use Rattle.mesh_request.specs.declared.failure.Failure.TheVariants.{Unreadable, Refused}
use Rattle.mesh_service.specs.Lines.{too_many_text}
use Rattle.mesh_service.specs.Near.{IsAnswerWithin, IsGivenUpIn}
use Rattle.mesh_service.specs.Serving.{IsAnswer, IsRefused, HoldsNoRequest}
use Rattle.mesh_service.specs.declared.near.Telling.{Telling}
use Rattle.mesh_arrays.specs.Rooms.{IsHandedOver}
use Rattle.mesh_arrays.specs.declared.outcome.Outcome.{Outcome}
use Rattle.mesh_arrays.specs.declared.outcome.Outcome.TheVariants.{Answered, OutOfRange, Malformed, OutOfMemory, TooManySplits}

-- how a call ends that meets a failure
abbrev pub outcome_of : Failure → Outcome
outcome_of Unreadable = Malformed
outcome_of (Refused CoordinateOutOfRange) = OutOfRange
outcome_of (Refused MemoryRefused) = OutOfMemory

-- the line that replies to a request, and how the call ends that tells it: an answer; the refusal of a request that may
-- not be answered; want of memory, where there was a byte to read; and that the text holds no request
pub data IsReplyTo (Answers : List ℕ → Type 0) (request : List ℕ) : List ℕ → Outcome → Type 0 where
  answer : {line : List ℕ} → Answers line → IsReplyTo Answers request line Answered
  refusal : IsRefused request
      → IsReplyTo Answers request (failure_line (Refused CoordinateOutOfRange)) OutOfRange
  no_memory : 0 < length request → IsReplyTo Answers request (failure_line (Refused MemoryRefused)) OutOfMemory
  no_request : HoldsNoRequest request → IsReplyTo Answers request (failure_line Unreadable) Malformed

-- what is told beside an answer: nothing, and it takes at most so many splits, or any number where that is 0
abbrev pub limited_to : ℕ → Telling
limited_to most = record { most_splits = most; nearness = false }

-- the same where an answer takes at most so many splits: a reply, or that the request took more
pub data IsReplyWithin (most : ℕ) (request : List ℕ) : List ℕ → Outcome → Type 0 where
  reply : {line : List ℕ} {ended : Outcome}
      → IsReplyTo (IsAnswerWithin (limited_to most) request) request line ended → IsReplyWithin most request line ended
  given_up : IsGivenUpIn most request → IsReplyWithin most request (too_many_text most) TooManySplits

-- a call in a room that held `old` and now holds `new`, told how many bytes are needed and ended so: it told the line of
-- a reply
pub record Tells (IsReply : List ℕ → Outcome → Type 0) (old new : List ℕ) (needed : ℕ) (ended : Outcome) : Type 0 where
  pub line : List ℕ
  pub told : Outcome
  pub reply : IsReply line told
  pub size : needed ≡ length line
  pub handed : IsHandedOver line old new told ended

-- a call for the line that the program writes for a request
abbrev pub TellsReply : List ℕ → List ℕ → List ℕ → ℕ → Outcome → Type 0
TellsReply request old new needed ended = Tells (IsReplyTo (IsAnswer request) request) old new needed ended

-- the same where an answer takes at most so many splits
abbrev pub TellsReplyWithin : ℕ → List ℕ → List ℕ → List ℕ → ℕ → Outcome → Type 0
TellsReplyWithin most request old new needed ended = Tells (IsReplyWithin most request) old new needed ended
