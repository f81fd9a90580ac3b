-- The replies to lines.
use Rattle.std.specs.Prelude.{ℕ, ◌≡◌, ◌<◌, ◌⊎◌, List, ◌++◌, length, codes, decimal, Option, Some, true, false}
use Rattle.std.specs.Io.KnownBytes.{Appends}
use Rattle.std.specs.List.{AllZip, concat}
use Rattle.mesh_offset.specs.declared.error.IntOutlineError.TheVariants.{CoordinateOutOfRange, OutOfMemory}
use Rattle.mesh_request.specs.Failures.{failure_line}
use Rattle.mesh_request.specs.declared.failure.Failure.TheVariants.{Unreadable, Refused}
use Rattle.mesh_service.specs.Lines.{too_many_text, why_text}
use Rattle.mesh_service.specs.Near.{IsAnswerWithin, IsGivenUpIn}
use Rattle.mesh_service.specs.Reasons.{LiesIn, reason_text}
use Rattle.mesh_service.specs.Serving.{IsAnswer, IsRefused, HoldsNoRequest}
use Rattle.mesh_service.specs.declared.near.Telling.{Telling}
use Rattle.mesh_service.specs.declared.reason.Reason.{Reason}
use Rattle.mesh_line_service.specs.Held.{IsWithin}
use Rattle.mesh_line_service.specs.declared.options.LineOptions.{LineOptions}

-- the reply to a line that has more bytes than these
abbrev pub too_long_text : ℕ → List ℕ
too_long_text most = codes "{\"refused\":\"line is longer than " ++ (decimal most ++ codes " bytes\"}\n")

-- what is asked of answers
abbrev pub telling_of : LineOptions → Telling
telling_of options = record { most_splits = options.most_splits; nearness = options.nearness }

-- the reply answers the request that the line is: as the service does where no limit is set and no nearness asked, and
-- else by no more splits than the limit, with its nearness just where that is asked
pub data IsAnswerAsked (options : LineOptions) (line reply : List ℕ) : Type 0 where
  plain : options.most_splits ≡ 0 → options.nearness ≡ false → IsAnswer line reply → IsAnswerAsked options line reply
  told : IsAnswerWithin (telling_of options) line reply → IsAnswerAsked options line reply

-- the reply to a line: an answer to the request that it is; the refusal of a request that may not be answered; that it
-- took more splits than a limit that is set; that the line holds no request, and a reason of it where that is asked; a
-- want of memory, where there was a byte, or a reason was to be told; and that it is too long, in place of all but a
-- want of memory
pub data IsReplyTo (options : LineOptions) (line : List ℕ) : List ℕ → Type 0 where
  answer : {reply : List ℕ} → IsWithin options.longest line → IsAnswerAsked options line reply
      → IsReplyTo options line reply
  refusal : IsWithin options.longest line → IsRefused line
      → IsReplyTo options line (failure_line (Refused CoordinateOutOfRange))
  given_up : IsWithin options.longest line → IsGivenUpIn options.most_splits line
      → IsReplyTo options line (too_many_text options.most_splits)
  no_request : IsWithin options.longest line → HoldsNoRequest line → options.why ≡ false
      → IsReplyTo options line (failure_line Unreadable)
  reasoned : {reason : Reason} → IsWithin options.longest line → HoldsNoRequest line → options.why ≡ true
      → LiesIn line reason → IsReplyTo options line (why_text (reason_text reason))
  no_memory : (0 < length line) ⊎ (options.why ≡ true) → IsReplyTo options line (failure_line (Refused OutOfMemory))
  too_long : {most : ℕ} → options.longest ≡ Some most → most < length line
      → IsReplyTo options line (too_long_text most)

-- known bytes grow by one reply to each of these lines, in their order, and by nothing else
pub record AppendsReplies (options : LineOptions) (lines : List (List ℕ)) (old new : Option (List ℕ)) : Type 0 where
  pub replies : List (List ℕ)
  pub each : AllZip (IsReplyTo options) lines replies
  pub written : Appends old new (concat replies)
