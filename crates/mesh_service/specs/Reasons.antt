-- Why a text holds no request.
use Rattle.std.specs.Prelude.{ℕ, ◌≡◌, ◌<◌, ◌≤◌, ◌+◌, List, [], ◌∷◌, ◌++◌, length, take, Some, None, nat_eq, IsUtf8}
use Rattle.std.specs.Prelude.{Bool, true, false, ◌&&◌, ◌||◌, if◌then◌else◌, Result, Ok, Err, codes, decimal}
use Rattle.std.specs.List.{starts_with}
use Rattle.serde_json.specs.Data.{Data}
use Rattle.serde_json.specs.Read.{read}
use Rattle.serde_json.specs.Written.{has_float}
use Rattle.mesh_request.specs.Places.{IsPlaceIn}
use Rattle.mesh_request.specs.Texts.{fault_text}
use Rattle.mesh_request.specs.declared.failure.Failure.{Failure}
use Rattle.mesh_request.specs.declared.failure.Failure.TheVariants.{Unreadable, Refused}
use Rattle.mesh_request.specs.declared.fault.key.Key.TheVariants.{Operation}
use Rattle.mesh_request.specs.declared.fault.place.Place.TheVariants.{Member}
use Rattle.mesh_offset.specs.declared.error.IntOutlineError.TheVariants.{OutOfMemory as MemoryRefused}
use Rattle.mesh_service.specs.Requested.{Requested, requested_by}
use Rattle.mesh_service.specs.Serving.{request_in, HoldsNoRequest}
use Rattle.mesh_service.specs.declared.reason.Reason.{Reason}
use Rattle.mesh_service.specs.declared.reason.Reason.TheVariants.{Empty, ByteOrderMark, InvalidJson, Wrong}
use Rattle.mesh_service.specs.declared.reason.Reason.TheVariants.{InexactNumber, NoOperation}
use Rattle.mesh_service.specs.declared.reason.TextPlace.{TextPlace}
use Rattle.mesh_service.specs.declared.text.AnyRequest.{AnyRequest}
use Rattle.mesh_service.specs.declared.text.TextError.{TextError}
use Rattle.mesh_service.specs.declared.text.TextError.TheVariants.{NoRequest, OutOfMemory}

-- the text, which is in UTF-8, is a request
pub record HoldsRequest (text : List ℕ) : Type 0 where
  pub utf8 : IsUtf8 text
  pub request : Requested
  pub requested : request_in text ≡ Some request

-- the place after a byte that stands at a place
abbrev pub after_byte : TextPlace → ℕ → TextPlace
after_byte here byte =
    if nat_eq byte 10 then record { line = here.line + 1; column = 1 }
    else record { line = here.line; column = here.column + 1 }

-- the place after some bytes that begin at a place
abbrev pub after : TextPlace → List ℕ → TextPlace
after here [] = here
after here (byte ∷ bytes) = after (after_byte here byte) bytes

-- the place where a text begins
abbrev pub beginning : TextPlace
beginning = record { line = 1; column = 1 }

-- a place of a text: that after some of its first bytes
abbrev pub IsTextPlace : List ℕ → TextPlace → Type 0
IsTextPlace text place = (n : ℕ) × (n ≤ length text) × (place ≡ after beginning (take n text))

-- whether a byte is one of JSON's blanks: a space, a tab, a line feed or a carriage return
abbrev pub blank_byte : ℕ → Bool
blank_byte byte = nat_eq byte 32 || nat_eq byte 9 || nat_eq byte 10 || nat_eq byte 13

-- whether each byte of a text is a blank
abbrev pub blank_text : List ℕ → Bool
blank_text [] = true
blank_text (byte ∷ bytes) = blank_byte byte && blank_text bytes

-- whether a text begins with a byte order mark
abbrev pub has_mark : List ℕ → Bool
has_mark text = starts_with nat_eq text (239 ∷ 187 ∷ 191 ∷ [])

-- the reason is that of a text that is no JSON, and its place is one of the text
abbrev pub IsTextReason : List ℕ → Reason → Type 0
IsTextReason text Empty = blank_text text ≡ true
IsTextReason text ByteOrderMark = (blank_text text ≡ false) × (has_mark text ≡ true)
IsTextReason text (InvalidJson place) =
    (blank_text text ≡ false) × (has_mark text ≡ false) × IsTextPlace text place
IsTextReason text NoOperation = ⊥
IsTextReason text (Wrong fault) = ⊥
IsTextReason text InexactNumber = ⊥

-- the reason is one of a value that is no request, and its place is one of the value
abbrev pub IsValueReason : Data → Reason → Type 0
IsValueReason d Empty = ⊥
IsValueReason d ByteOrderMark = ⊥
IsValueReason d (InvalidJson place) = ⊥
IsValueReason d NoOperation = IsPlaceIn d (Member Operation)
IsValueReason d (Wrong fault) = IsPlaceIn d fault.place
IsValueReason d InexactNumber = has_float d ≡ true

-- the place of a reason lies in the text, which is no JSON in UTF-8, or in the value that the text is
pub data LiesIn (text : List ℕ) (reason : Reason) : Type 0 where
  in_text : (IsUtf8 text → read text ≡ None) → IsTextReason text reason → LiesIn text reason
  in_value : (d : Data) → read text ≡ Some d → IsValueReason d reason → LiesIn text reason

-- what a text is read as: the request that it holds; the reason that it holds none; or memory was refused
abbrev pub IsReadOf : List ℕ → Result AnyRequest TextError → Type 0
IsReadOf text (Ok request) = IsUtf8 text × (request_in text ≡ Some (requested_by request))
IsReadOf text (Err (NoRequest reason)) = HoldsNoRequest text × LiesIn text reason
IsReadOf text (Err OutOfMemory) = 0 < length text

-- the failure of a text that is not read as a request
abbrev pub failure_of : TextError → Failure
failure_of (NoRequest reason) = Unreadable
failure_of OutOfMemory = Refused MemoryRefused

-- a place of a text, as people read it
abbrev pub place_text : TextPlace → List ℕ
place_text place = codes "line " ++ (decimal place.line ++ (codes ", column " ++ decimal place.column))

-- what is needed of a request that names no operation
abbrev pub no_operation_text : List ℕ
no_operation_text =
    codes
    "op: \"outline\", \"stroke\", \"variable_stroke\", \"boolean\", \"coverage\" or \"overlaps\" is needed"

-- a reason, as people read it
abbrev pub reason_text : Reason → List ℕ
reason_text Empty = codes "the input is empty"
reason_text ByteOrderMark = codes "line 1, column 1: a byte order mark"
reason_text (InvalidJson place) = place_text place ++ codes ": invalid JSON"
reason_text NoOperation = no_operation_text
reason_text (Wrong fault) = fault_text fault
reason_text InexactNumber =
    codes "a number is no whole number from -2^63 to 2^64-1, under a key that is ignored"
