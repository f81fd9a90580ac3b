-- The steps of reading a line, and of replying to it.
use Rattle.std.specs.Prelude.{ℕ, ◌≡◌, ◌≢◌, ◌<◌, List, [], ◌∷◌, ◌++◌, All, Option, OnSome, Result, Ok, Err, length}
use Rattle.std.specs.Prelude.{string_bytes}
use Rattle.std.specs.Io.KnownBytes.{Consumes, IsAtEnd}
use Rattle.std.specs.declared.alloc.Global.{Global}
use Rattle.std.specs.declared.string.String.{String}
use Rattle.mesh_offset.specs.declared.error.IntNearnessError.{IntNearnessError}
use Rattle.mesh_offset.specs.declared.error.IntNearnessError.TheVariants.{CoordinateOutOfRange, OutOfMemory}
use Rattle.mesh_offset.specs.declared.error.IntNearnessError.TheVariants.{TooManySplits}
use Rattle.mesh_request.specs.Failures.{failure_line}
use Rattle.mesh_request.specs.declared.failure.Failure.{Failure}
use Rattle.mesh_service.specs.Near.{IsGivenUpIn}
use Rattle.mesh_service.specs.Serving.{IsRefused}
use Rattle.mesh_line_service.specs.Held.{Holds}
use Rattle.mesh_line_service.specs.Replies.{IsAnswerAsked}
use Rattle.mesh_line_service.specs.declared.line.Line.{Line}
use Rattle.mesh_line_service.specs.declared.line.Met.{Met}
use Rattle.mesh_line_service.specs.declared.options.LineOptions.{LineOptions}
use Rattle.mesh_line_service.specs.declared.line.Met.TheVariants.{More, LineFeed, End}

-- the line feed, where it was met
abbrev pub line_feed : Met → List ℕ
line_feed More = []
line_feed LineFeed = 10 ∷ []
line_feed End = []

-- a part of a line was taken, and its line feed where it was met; what was held of the line before it is held with it
pub record Takes (longest : Option ℕ) (old new : Option (List ℕ)) (before after : Line) (met : Met) : Type 0 where
  pub part : List ℕ
  pub plain : All (λ byte. byte ≢ 10) part
  pub holds : (line : List ℕ) → Holds longest line before.bytes.items before.held
      → Holds longest (line ++ part) after.bytes.items after.held
  pub taken : Consumes old new (part ++ line_feed met)
  pub end : met ≡ End → (part ≡ []) × OnSome old (IsAtEnd new)

-- the text of a reply, or the line of the failure in its place
abbrev pub reply_text : Result (String Global) Failure → List ℕ
reply_text (Ok text) = string_bytes text
reply_text (Err failure) = failure_line failure

-- the answer to a line that is a request, or why there is none
abbrev pub IsAnsweredTo : LineOptions → List ℕ → Result (String Global) IntNearnessError → Type 0
IsAnsweredTo options line (Ok reply) = IsAnswerAsked options line (string_bytes reply)
IsAnsweredTo options line (Err CoordinateOutOfRange) = IsRefused line
IsAnsweredTo options line (Err OutOfMemory) = 0 < length line
IsAnsweredTo options line (Err TooManySplits) = IsGivenUpIn options.most_splits line
