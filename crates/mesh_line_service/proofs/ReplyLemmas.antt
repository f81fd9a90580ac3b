-- Lemmas over replies: what is answered or told is a reply, and replies join.
use Rattle.std.proofs.Common.{◌≡◌, ◌∙◌, inl, inr, ℕ, ◌<◌, true, false, List, [], ◌∷◌, ◌++◌, length, String, Global, Option, None, Some, Result, Ok, Err, IfOk, IfErr, refl, sym, subst, ap, append_assoc, append-nil, arith}
use Rattle.std.specs.Prelude.{string_bytes}
use Rattle.std.specs.List.{AllZip, concat}
use Rattle.std.specs.Io.KnownBytes.{Appends}
use Rattle.std.proofs.KnownBytes.{Appends-trans}
use Rattle.std.specs.Ordering.{int_cmp}
use Rattle.mesh_offset.specs.Errors.{of_offset}
use Rattle.mesh_offset.specs.declared.error.IntOutlineError.TheVariants.{CoordinateOutOfRange, OutOfMemory}
use Rattle.mesh_offset.specs.declared.error.IntOutlineError.{IntOutlineError}
use Rattle.mesh_offset.specs.declared.error.IntNearnessError.{IntNearnessError}
use Rattle.mesh_offset.specs.declared.error.IntNearnessError.TheVariants as near
use Rattle.mesh_request.specs.Failures.{failure_line, IsOfMemory}
use Rattle.mesh_request.specs.declared.failure.Failure.{Failure}
use Rattle.mesh_request.specs.declared.failure.Failure.TheVariants.{Unreadable, Refused}
use Rattle.mesh_service.proofs.Requested.{request_has_bytes}
use Rattle.mesh_service.specs.Near.{AnswersWithin, IsGivenUpIn, PassesLimit}
use Rattle.mesh_service.specs.Lines.{too_many_text, why_text}
use Rattle.mesh_service.specs.Reasons.{IsReadOf, LiesIn, reason_text}
use Rattle.mesh_service.specs.Serving.{HoldsNoRequest}
use Rattle.mesh_service.specs.declared.reason.Reason.{Reason}
use Rattle.mesh_service.specs.Requested.{requested_by}
use Rattle.mesh_service.specs.Served.{IsAccepted, Answers}
use Rattle.mesh_service.specs.declared.text.AnyRequest.{AnyRequest}
use Rattle.mesh_line_service.specs.Held.{IsWithin}
use Rattle.mesh_line_service.specs.Lines.{lines_of, TakesLines}
use Rattle.mesh_line_service.specs.Replies.{IsAnswerAsked, IsReplyTo, AppendsReplies, telling_of, too_long_text}
use Rattle.mesh_line_service.specs.Private.Steps.{IsAnsweredTo, reply_text}
use Rattle.mesh_line_service.specs.declared.options.LineOptions.{LineOptions}

-- the refusal of a request that may not be answered, and a want of memory, are replies
pub refusal_told : (options : LineOptions) (line : List ℕ) (error : IntOutlineError) → IsWithin options.longest line → IsAnsweredTo options line (Err (of_offset error)) → IsReplyTo options line (failure_line (Refused error))
refusal_told options line CoordinateOutOfRange within refused = IsReplyTo.refusal within refused
refusal_told options line OutOfMemory within refused = IsReplyTo.no_memory (inl refused)

-- an answer that is made as the service makes it
pub answered_plainly : (options : LineOptions) (line : List ℕ) (request : AnyRequest) (reply : String Global) → options.most_splits ≡ 0 → options.nearness ≡ false → IsReadOf line (Ok request) →
    Answers int_cmp (requested_by request) (string_bytes reply) → IsAnsweredTo options line (Ok reply)
answered_plainly options line request reply unlimited plain read answered =
    IsAnswerAsked.plain unlimited plain (record { utf8 = read.0; request = requested_by request; requested = read.1; answered = answered })

-- one that is made as options ask it
pub answered_within : (options : LineOptions) (line : List ℕ) (request : AnyRequest) (told : Result (String Global) IntNearnessError) → IsReadOf line (Ok request) →
    IfOk told (λ reply. AnswersWithin (telling_of options) int_cmp (requested_by request) (string_bytes reply)) →
    (told ≡ Err near.CoordinateOutOfRange → IsAccepted (requested_by request) → ⊥) → (told ≡ Err near.TooManySplits → PassesLimit options.most_splits (requested_by request)) →
    IsAnsweredTo options line told
answered_within options line request (Ok reply) read answered refused past =
    IsAnswerAsked.told (record { utf8 = read.0; request = requested_by request; requested = read.1; answered = answered })
answered_within options line request (Err near.CoordinateOutOfRange) read answered refused past =
    record { utf8 = read.0; request = requested_by request; requested = read.1; refused = refused refl }
answered_within options line request (Err near.OutOfMemory) read answered refused past = request_has_bytes line (requested_by request) read.1
answered_within options line request (Err near.TooManySplits) read answered refused past =
    record { utf8 = read.0; request = requested_by request; requested = read.1; past = past refl }

-- what tells that a drawing took too many splits is its reply
pub too_many_told : (options : LineOptions) (line : List ℕ) (told : Result (String Global) Failure) → IsWithin options.longest line → IsGivenUpIn options.most_splits line →
    IfOk told (λ text. string_bytes text ≡ too_many_text options.most_splits) → IfErr told IsOfMemory → IsReplyTo options line (reply_text told)
too_many_told options line (Ok text) within past same memory = subst (IsReplyTo options line) (sym same) (IsReplyTo.given_up within past)
too_many_told options line (Err Unreadable) within past same memory = absurd memory
too_many_told options line (Err (Refused OutOfMemory)) within past same memory = IsReplyTo.no_memory (inl (request_has_bytes line past.request past.requested))
too_many_told options line (Err (Refused CoordinateOutOfRange)) within past same memory = absurd memory

-- what tells why a line holds no request is its reply
pub why_told : (options : LineOptions) (line : List ℕ) (reason : Reason) (told : Result (String Global) Failure) → IsWithin options.longest line → HoldsNoRequest line → options.why ≡ true →
    LiesIn line reason → IfOk told (λ text. string_bytes text ≡ why_text (reason_text reason)) → IfErr told IsOfMemory → IsReplyTo options line (reply_text told)
why_told options line reason (Ok text) within none asked lies same memory = subst (IsReplyTo options line) (sym same) (IsReplyTo.reasoned within none asked lies)
why_told options line reason (Err Unreadable) within none asked lies same memory = absurd memory
why_told options line reason (Err (Refused OutOfMemory)) within none asked lies same memory = IsReplyTo.no_memory (inr asked)
why_told options line reason (Err (Refused CoordinateOutOfRange)) within none asked lies same memory = absurd memory

-- what is told of a line that is too long is its reply
pub too_long_told : (options : LineOptions) (most : ℕ) (line : List ℕ) (told : Result (String Global) Failure) →
    IfOk told (λ text. string_bytes text ≡ too_long_text most) → IfErr told IsOfMemory → options.longest ≡ Some most → most < length line → IsReplyTo options line (reply_text told)
too_long_told options most line (Ok text) same memory bound many = subst (IsReplyTo options line) (sym same) (IsReplyTo.too_long bound many)
too_long_told options most line (Err Unreadable) same memory bound many = absurd memory
too_long_told options most line (Err (Refused OutOfMemory)) same memory bound many = IsReplyTo.no_memory (inl (omega (arith, many)))
too_long_told options most line (Err (Refused CoordinateOutOfRange)) same memory bound many = absurd memory

-- lines that are taken in turn are taken together
pub taken_in_turn : (old mid new : Option (List ℕ)) (lines more : List (List ℕ)) → TakesLines old mid lines → TakesLines mid new more → TakesLines old new (lines ++ more)
taken_in_turn None mid new lines more first second = tt
taken_in_turn (Some text) None new lines more first second = absurd first
taken_in_turn (Some text) (Some left) None lines more first second = absurd second
taken_in_turn (Some text) (Some left) (Some rest) lines more first second = first ∙ ap (λ l. lines ++ l) second ∙ sym (append_assoc lines more (lines_of rest))

concat-more : (texts : List (List ℕ)) (text : List ℕ) → concat (texts ++ text ∷ []) ≡ concat texts ++ text
concat-more [] text = append-nil text
concat-more (first ∷ texts) text = ap (λ l. first ++ l) (concat-more texts text) ∙ sym (append_assoc first (concat texts) text)

AllZip-more : (R : List ℕ → List ℕ → Type 0) (xs ys : List (List ℕ)) (x y : List ℕ) → AllZip R xs ys → R x y → AllZip R (xs ++ x ∷ []) (ys ++ y ∷ [])
AllZip-more R [] [] x y each last = (last, tt)
AllZip-more R [] (b ∷ ys) x y each last = absurd each
AllZip-more R (a ∷ xs) [] x y each last = absurd each
AllZip-more R (a ∷ xs) (b ∷ ys) x y each last = (each.0, AllZip-more R xs ys x y each.1 last)

-- a reply more, to a line more
pub appended_reply : (options : LineOptions) (lines : List (List ℕ)) (line reply : List ℕ) (old mid new : Option (List ℕ)) →
    AppendsReplies options lines old mid → IsReplyTo options line reply → Appends mid new reply → AppendsReplies options (lines ++ line ∷ []) old new
appended_reply options lines line reply old mid new before replies appended = record {
  replies = before.replies ++ reply ∷ [];
  each = AllZip-more (IsReplyTo options) lines before.replies line reply before.each replies;
  written = subst (Appends old new) (sym (concat-more before.replies reply)) (Appends-trans old mid new (concat before.replies) reply before.written appended);
}
