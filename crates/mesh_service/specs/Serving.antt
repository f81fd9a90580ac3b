-- What the service answers to a request.
use Rattle.std.specs.Prelude.{ℕ, ◌≡◌, ◌<◌, List, ◌++◌, length}
use Rattle.std.specs.Prelude.{Option, Some, None, Result, Ok, Err, IfSome, IsUtf8, option_and_then, if◌then◌else◌}
use Rattle.std.specs.Prelude.{string_bytes}
use Rattle.std.specs.Io.KnownBytes.{Appends, IsAtEnd}
use Rattle.std.specs.Ordering.{int_cmp}
use Rattle.std.specs.declared.alloc.Global.{Global}
use Rattle.std.specs.declared.string.String.{String}
use Rattle.serde_json.specs.Data.{Data}
use Rattle.serde_json.specs.Read.{read}
use Rattle.serde_json.specs.Written.{has_float}
use Rattle.mesh_offset.specs.declared.error.IntOutlineError.TheVariants.{CoordinateOutOfRange, OutOfMemory}
use Rattle.mesh_request.specs.Failures.{failure_line}
use Rattle.mesh_service.specs.Requested.{Requested, requested_of}
use Rattle.mesh_service.specs.Served.{IsAccepted, Answers}
use Rattle.mesh_request.specs.declared.failure.Failure.{Failure}
use Rattle.mesh_request.specs.declared.failure.Failure.TheVariants.{Unreadable, Refused}
use Rattle.mesh_service.specs.declared.service.Status.{Status}
use Rattle.mesh_service.specs.declared.service.Status.TheVariants.{Answered, Unread, Unwritten}
use Rattle.mesh_service.specs.declared.service.Status.TheVariants.{Refused as RefusedStatus}
use Rattle.mesh_service.specs.declared.service.Status.TheVariants.{Unreadable as UnreadableStatus}

-- the request that data is; a number that is no whole number of 64 bits makes it none
abbrev pub exact_request : Data → Option Requested
exact_request d = if has_float d then None else requested_of d

-- the request that a text is
abbrev pub request_in : List ℕ → Option Requested
request_in text = option_and_then exact_request (read text)

-- `line` answers the request that `text`, in UTF-8, is
pub record IsAnswer (text : List ℕ) (line : List ℕ) : Type 0 where
  pub utf8 : IsUtf8 text
  pub request : Requested
  pub requested : request_in text ≡ Some request
  pub answered : Answers int_cmp request line

-- the request that `text`, in UTF-8, is may not be answered
pub record IsRefused (text : List ℕ) : Type 0 where
  pub utf8 : IsUtf8 text
  pub request : Requested
  pub requested : request_in text ≡ Some request
  pub refused : IsAccepted request → ⊥

-- the text, where it is in UTF-8, is no request
abbrev pub HoldsNoRequest : List ℕ → Type 0
HoldsNoRequest text = IsUtf8 text → request_in text ≡ None

-- the response to a text: an answer to the request that it is; that it holds none; the refusal of one that may not be
-- answered; or want of memory, where there was a byte
abbrev pub IsResponse : List ℕ → Result (String Global) Failure → Type 0
IsResponse text (Ok line) = IsAnswer text (string_bytes line)
IsResponse text (Err Unreadable) = HoldsNoRequest text
IsResponse text (Err (Refused CoordinateOutOfRange)) = IsRefused text
IsResponse text (Err (Refused OutOfMemory)) = 0 < length text

-- how a run ends that writes this answer, or the line of the failure in its place
abbrev pub status_of : Result (String Global) Failure → Status
status_of (Ok line) = Answered
status_of (Err Unreadable) = UnreadableStatus
status_of (Err (Refused error)) = RefusedStatus

-- what is told is a refusal, of the range or of memory
abbrev pub TellsRefusal : Result (String Global) Failure → Type 0
TellsRefusal (Ok line) = ⊥
TellsRefusal (Err Unreadable) = ⊥
TellsRefusal (Err (Refused error)) = Unit {0}

-- some bytes are left, as far as they are known
abbrev pub HasBytes : Option (List ℕ) → Type 0
HasBytes left = IfSome left (λ bytes. 0 < length bytes)

-- the lines that may be written where the reader has these bytes left, as far as they are known: an answer to them; the
-- line of a refusal, where they may not be answered; that of a want of memory, where there are any; and that of what is
-- unreadable
pub data IsReply (left : Option (List ℕ)) : List ℕ → Type 0 where
  answer : {request line : List ℕ} → IfSome left (λ bytes. request ≡ bytes) → IsAnswer request line → IsReply left line
  refusal : {request : List ℕ} → IfSome left (λ bytes. request ≡ bytes) → IsRefused request
      → IsReply left (failure_line (Refused CoordinateOutOfRange))
  no_memory : HasBytes left → IsReply left (failure_line (Refused OutOfMemory))
  unreadable : IsReply left (failure_line Unreadable)

-- known bytes grow by a beginning of the line, which is all of it, a part of it or nothing
pub record AppendsBeginning (old new : Option (List ℕ)) (line : List ℕ) : Type 0 where
  pub written : List ℕ
  pub rest : List ℕ
  pub whole : line ≡ written ++ rest
  pub appended : Appends old new written

-- how a run ended: the request that was read to the end was answered, refused or is none; there were bytes, and memory
-- was refused; reading failed, or writing did, before or after the last byte of the line. The reader had these bytes
-- left, and these when the run ended
pub data Serves (left unread old new : Option (List ℕ)) : Status → Type 0 where
  answered : {request line : List ℕ} → IfSome left (λ bytes. request ≡ bytes) → IsAtEnd unread
      → IsAnswer request line → Appends old new line → Serves left unread old new Answered
  refused : {request : List ℕ} → IfSome left (λ bytes. request ≡ bytes) → IsAtEnd unread → IsRefused request
      → Appends old new (failure_line (Refused CoordinateOutOfRange)) → Serves left unread old new RefusedStatus
  no_memory : HasBytes left → Appends old new (failure_line (Refused OutOfMemory))
      → Serves left unread old new RefusedStatus
  unreadable : IfSome left HoldsNoRequest → IsAtEnd unread → Appends old new (failure_line Unreadable)
      → Serves left unread old new UnreadableStatus
  unread : Appends old new (failure_line Unreadable) → Serves left unread old new Unread
  unwritten : {line : List ℕ} → IsReply left line → AppendsBeginning old new line
      → Serves left unread old new Unwritten
