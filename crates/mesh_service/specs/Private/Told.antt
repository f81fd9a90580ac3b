-- What is read of a value, and written in a run: only private contracts read this.
use Rattle.std.specs.Prelude.{ℕ, ◌≡◌, ◌⊎◌, Bool, IsTrue, List, ◌++◌, Option, Some, None, Result, Ok, Err, string_bytes}
use Rattle.std.specs.Io.KnownBytes.{Appends, Consumes, IsAtEnd}
use Rattle.std.specs.Allocator.{alloc_error}
use Rattle.std.specs.declared.alloc.AllocError.{AllocError}
use Rattle.std.specs.declared.alloc.Global.{Global}
use Rattle.std.specs.declared.string.String.{String}
use Rattle.serde_json.specs.Data.{Data}
use Rattle.mesh_request.specs.Failures.{failure_line}
use Rattle.mesh_request.specs.declared.failure.Failure.{Failure}
use Rattle.mesh_request.specs.declared.failure.Failure.TheVariants.{Unreadable, Refused}
use Rattle.mesh_service.specs.Reasons.{IsValueReason}
use Rattle.mesh_service.specs.Requested.{requested_by}
use Rattle.mesh_service.specs.Serving.{exact_request, AppendsBeginning}
use Rattle.mesh_service.specs.declared.reason.Reason.{Reason}
use Rattle.mesh_service.specs.declared.service.Status.{Status}
use Rattle.mesh_service.specs.declared.service.Status.TheVariants.{Unread, Unwritten, Refused as RefusedStatus}
use Rattle.mesh_service.specs.declared.text.AnyRequest.{AnyRequest}
use Rattle.mesh_service.specs.declared.text.TextError.{TextError}
use Rattle.mesh_service.specs.declared.text.TextError.TheVariants.{NoRequest, OutOfMemory}

-- what a value is read as
abbrev pub IsReadOfValue : Data → Result AnyRequest TextError → Type 0
IsReadOfValue d (Ok request) = exact_request d ≡ Some (requested_by request)
IsReadOfValue d (Err (NoRequest reason)) = (exact_request d ≡ None) × IsValueReason d reason
IsReadOfValue d (Err OutOfMemory) = Unit {0}

-- a part of the bytes that are left was taken behind those that were held, all that was left where the end is reached
abbrev pub TakesPart : Option (List ℕ) → Option (List ℕ) → List ℕ → List ℕ → Bool → Type 0
TakesPart left unread held bytes ended =
    (part : List ℕ) × Consumes left unread part × (bytes ≡ held ++ part) × (IsTrue ended → IsAtEnd unread)

-- the reason that an error tells
abbrev pub reason_of : TextError → Result (Option Reason) AllocError
reason_of (NoRequest reason) = Ok (Some reason)
reason_of OutOfMemory = Err alloc_error

-- the line of an answer, or of the failure in its place
abbrev pub told_line : Result (String Global) Failure → List ℕ
told_line (Ok line) = string_bytes line
told_line (Err failure) = failure_line failure

-- how a run ends that met this failure when it read, and whose line is written
abbrev pub unread_status : Failure → Status
unread_status Unreadable = Unread
unread_status (Refused error) = RefusedStatus

-- how a run ends that was to write a line: as one that has written it, or as one whose writing failed
abbrev pub EndsAs : Option (List ℕ) → Option (List ℕ) → List ℕ → Status → Status → Type 0
EndsAs old new line written ended =
    ((ended ≡ written) × Appends old new line) ⊎ ((ended ≡ Unwritten) × AppendsBeginning old new line)
