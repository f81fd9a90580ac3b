-- Lemmas over lines: what is answered or told is a response to what was read.
use Rattle.std.proofs.Common.{◌≡◌, ◌∙◌, ◌⊎◌, inl, inr, ℕ, ◌<◌, List, length, String, Global, Option, None, Some, Result, Ok, Err, IfSome, IsErrAnd, refl, sym, subst}
use Rattle.std.specs.Prelude.{string_bytes}
use Rattle.std.proofs.lemmas.Option.{none-some}
use Rattle.std.specs.Io.KnownBytes.{Appends, IsAtEnd}
use Rattle.std.specs.Ordering.{int_cmp}
use Rattle.mesh_offset.specs.declared.error.IntOutlineError.{IntOutlineError}
use Rattle.mesh_offset.specs.declared.error.IntOutlineError.TheVariants.{CoordinateOutOfRange, OutOfMemory}
use Rattle.mesh_offset.specs.declared.error.IntNearnessError.{IntNearnessError}
use Rattle.mesh_offset.specs.declared.error.IntNearnessError.TheVariants as near
use Rattle.mesh_request.specs.Failures.{failure_line, IsOfMemory}
use Rattle.mesh_request.specs.Reading.{IsOfReading}
use Rattle.mesh_request.specs.declared.failure.Failure.{Failure}
use Rattle.mesh_request.specs.declared.failure.Failure.TheVariants.{Unreadable, Refused}
use Rattle.mesh_service.proofs.Requested.{request_has_bytes}
use Rattle.mesh_service.specs.Near.{AnswersWithin, IsResponseWithin, PassesLimit, TellsNearRefusal, of_nearness}
use Rattle.mesh_service.specs.Private.Told.{EndsAs, told_line, unread_status}
use Rattle.mesh_service.specs.Reasons.{IsReadOf, failure_of}
use Rattle.mesh_service.specs.Requested.{Requested, for_combination, for_drawing, requested_by}
use Rattle.mesh_service.specs.Served.{IsAccepted, Answers}
use Rattle.mesh_service.specs.Serving.{IsRefused, IsReply, IsResponse, Serves, TellsRefusal, HasBytes, HoldsNoRequest, request_in, status_of}
use Rattle.mesh_service.specs.declared.near.Telling.{Telling}
use Rattle.mesh_service.specs.declared.near_failure.NearFailure.{NearFailure}
use Rattle.mesh_service.specs.declared.near_failure.NearFailure.TheVariants.{Failed, TooManySplits}
use Rattle.mesh_service.specs.declared.service.Status.{Status}
use Rattle.mesh_service.specs.declared.service.Status.TheVariants.{Unwritten, Unread}
use Rattle.mesh_service.specs.declared.service.Status.TheVariants.{Refused as RefusedStatus, Unreadable as UnreadableStatus}
use Rattle.mesh_service.specs.declared.text.AnyRequest.{AnyRequest}
use Rattle.mesh_service.specs.declared.text.TextError.{TextError}
use Rattle.mesh_service.specs.declared.text.TextError.TheVariants.{NoRequest, OutOfMemory as NoMemory}

-- ---- what was read of a text is answered

pub answer_responds : (text : List ℕ) (request : AnyRequest) (line : String Global) → IsReadOf text (Ok request) → Answers int_cmp (requested_by request) (string_bytes line) → IsResponse text (Ok line)
answer_responds text request line read answered = record { utf8 = read.0; request = requested_by request; requested = read.1; answered = answered }

pub refusal_responds : (text : List ℕ) (request : AnyRequest) (error : IntOutlineError) (told : Result (String Global) Failure) → IsReadOf text (Ok request) →
    (error ≡ CoordinateOutOfRange → IsAccepted (requested_by request) → ⊥) → IsErrAnd told (λ failure. failure ≡ Refused error) → IsResponse text told
refusal_responds text request error (Ok line) read refused same = absurd same
refusal_responds text request CoordinateOutOfRange (Err failure) read refused same =
    subst (λ (f : Failure). IsResponse text (Err f)) (sym same) (record { utf8 = read.0; request = requested_by request; requested = read.1; refused = refused refl })
refusal_responds text request OutOfMemory (Err failure) read refused same =
    subst (λ (f : Failure). IsResponse text (Err f)) (sym same) (request_has_bytes text (requested_by request) read.1)

pub unread_responds : (text : List ℕ) (error : TextError) (failure : Failure) → IsReadOf text (Err error) → failure ≡ failure_of error → IsResponse text (Err failure)
unread_responds text (NoRequest reason) failure read same = subst (λ (f : Failure). IsResponse text (Err f)) (sym same) read.0
unread_responds text NoMemory failure read same = subst (λ (f : Failure). IsResponse text (Err f)) (sym same) read

-- the same with a limit on splits
pub answer_responds_within : (telling : Telling) (text : List ℕ) (request : AnyRequest) (line : String Global) → IsReadOf text (Ok request) →
    AnswersWithin telling int_cmp (requested_by request) (string_bytes line) → IsResponseWithin telling text (Ok line)
answer_responds_within telling text request line read answered = record { utf8 = read.0; request = requested_by request; requested = read.1; answered = answered }

pub refusal_responds_within : (telling : Telling) (text : List ℕ) (request : AnyRequest) (error : IntNearnessError) (told : Result (String Global) NearFailure) → IsReadOf text (Ok request) →
    (error ≡ near.CoordinateOutOfRange → IsAccepted (requested_by request) → ⊥) → (error ≡ near.TooManySplits → PassesLimit telling.most_splits (requested_by request)) →
    IsErrAnd told (λ failure. failure ≡ of_nearness error) → IsResponseWithin telling text told
refusal_responds_within telling text request error (Ok line) read refused past same = absurd same
refusal_responds_within telling text request near.CoordinateOutOfRange (Err failure) read refused past same =
    subst (λ (f : NearFailure). IsResponseWithin telling text (Err f)) (sym same) (record { utf8 = read.0; request = requested_by request; requested = read.1; refused = refused refl })
refusal_responds_within telling text request near.OutOfMemory (Err failure) read refused past same =
    subst (λ (f : NearFailure). IsResponseWithin telling text (Err f)) (sym same) (request_has_bytes text (requested_by request) read.1)
refusal_responds_within telling text request near.TooManySplits (Err failure) read refused past same =
    subst (λ (f : NearFailure). IsResponseWithin telling text (Err f)) (sym same) (record { utf8 = read.0; request = requested_by request; requested = read.1; past = past refl })

-- ---- what may not be answered is refused

not_accepted : (text : List ℕ) (request : Requested) → IsRefused text → request_in text ≡ Some request → IsAccepted request → ⊥
not_accepted text request kept requested accepted =
    let here : IfSome (request_in text) (λ r. IsAccepted r) = subst (λ (o : Option Requested). IfSome o (λ r. IsAccepted r)) (sym requested) accepted in
    kept.refused (subst (λ (o : Option Requested). IfSome o (λ r. IsAccepted r)) kept.requested here)

pub refusal_told : (text : List ℕ) (told : Result (String Global) Failure) → IsResponse text told → IsRefused text → TellsRefusal told
refusal_told text (Ok line) response kept = absurd (not_accepted text response.request kept response.requested response.answered.accepted)
refusal_told text (Err (Refused error)) response kept = tt
refusal_told text (Err Unreadable) response kept = absurd (none-some kept.request (sym (response kept.utf8) ∙ kept.requested))

-- what took more splits than it may, may be answered
accepted_past : (most : ℕ) (request : Requested) → PassesLimit most request → IsAccepted request
accepted_past most (for_drawing request) past = past.accepted
accepted_past most (for_combination request) past = past.accepted

pub near_refusal_told : (telling : Telling) (text : List ℕ) (told : Result (String Global) NearFailure) → IsResponseWithin telling text told → IsRefused text → TellsNearRefusal told
near_refusal_told telling text (Ok line) response kept = absurd (not_accepted text response.request kept response.requested response.answered.accepted)
near_refusal_told telling text (Err (Failed failure)) response kept = refusal_told text (Err failure) response kept
near_refusal_told telling text (Err TooManySplits) response kept =
    absurd (not_accepted text response.request kept response.requested (accepted_past telling.most_splits response.request response.past))

-- ---- what a run writes

-- what was left has bytes where what was read has
bytes_known : (left : Option (List ℕ)) (request : List ℕ) → IfSome left (λ xs. request ≡ xs) → 0 < length request → HasBytes left
bytes_known None request known h = tt
bytes_known (Some xs) request known h = subst (λ (bytes : List ℕ). 0 < length bytes) known h

-- what was left holds no request, where what was read holds none
none_left : (left : Option (List ℕ)) (request : List ℕ) → IfSome left (λ xs. request ≡ xs) → HoldsNoRequest request → IfSome left HoldsNoRequest
none_left None request known none = tt
none_left (Some xs) request known none = subst HoldsNoRequest known none

reply_known : (left : Option (List ℕ)) (request : List ℕ) (told : Result (String Global) Failure) → IfSome left (λ xs. request ≡ xs) → IsResponse request told → IsReply left (told_line told)
reply_known left request (Ok line) known response = IsReply.answer known response
reply_known left request (Err Unreadable) known response = IsReply.unreadable
reply_known left request (Err (Refused OutOfMemory)) known response = IsReply.no_memory (bytes_known left request known response)
reply_known left request (Err (Refused CoordinateOutOfRange)) known response = IsReply.refusal known response

whole_served : (left unread old new : Option (List ℕ)) (request : List ℕ) (told : Result (String Global) Failure) → IfSome left (λ xs. request ≡ xs) → IsAtEnd unread →
    IsResponse request told → Appends old new (told_line told) → Serves left unread old new (status_of told)
whole_served left unread old new request (Ok line) known end response whole = Serves.answered known end response whole
whole_served left unread old new request (Err Unreadable) known end response whole = Serves.unreadable (none_left left request known response) end whole
whole_served left unread old new request (Err (Refused OutOfMemory)) known end response whole = Serves.no_memory (bytes_known left request known response) whole
whole_served left unread old new request (Err (Refused CoordinateOutOfRange)) known end response whole = Serves.refused known end response whole

-- a run that read a text
pub served : (left unread old new : Option (List ℕ)) (request : List ℕ) (told : Result (String Global) Failure) (ended : Status) → IfSome left (λ xs. request ≡ xs) → IsAtEnd unread →
    IsResponse request told → EndsAs old new (told_line told) (status_of told) ended → Serves left unread old new ended
served left unread old new request told ended known end response (inl (same, whole)) =
    subst (Serves left unread old new) (sym same) (whole_served left unread old new request told known end response whole)
served left unread old new request told ended known end response (inr (same, beginning)) =
    subst (Serves left unread old new) (sym same) (Serves.unwritten (reply_known left request told known response) beginning)

-- a run that failed to read one
pub served_unread : (left unread old new : Option (List ℕ)) (failure : Failure) (ended : Status) → IsOfReading failure → (IsOfMemory failure → HasBytes left) →
    EndsAs old new (failure_line failure) (unread_status failure) ended → Serves left unread old new ended
served_unread left unread old new Unreadable ended of_reading memory (inl (same, whole)) = subst (Serves left unread old new) (sym same) (Serves.unread whole)
served_unread left unread old new Unreadable ended of_reading memory (inr (same, beginning)) =
    subst (Serves left unread old new) (sym same) (Serves.unwritten IsReply.unreadable beginning)
served_unread left unread old new (Refused OutOfMemory) ended of_reading memory (inl (same, whole)) =
    subst (Serves left unread old new) (sym same) (Serves.no_memory (memory tt) whole)
served_unread left unread old new (Refused OutOfMemory) ended of_reading memory (inr (same, beginning)) =
    subst (Serves left unread old new) (sym same) (Serves.unwritten (IsReply.no_memory (memory tt)) beginning)
served_unread left unread old new (Refused CoordinateOutOfRange) ended of_reading memory ends = absurd of_reading

-- no run ends both as a refusal or a failed write, and as what is unreadable or a failed read
pub not_both : (s : Status) → (s ≡ RefusedStatus) ⊎ (s ≡ Unwritten) → (s ≡ UnreadableStatus) ⊎ (s ≡ Unread) → ⊥
not_both s (inl e) (inl f) = cc
not_both s (inl e) (inr f) = cc
not_both s (inr e) (inl f) = cc
not_both s (inr e) (inr f) = cc
