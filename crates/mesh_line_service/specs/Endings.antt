-- What a run has read and written when it ends.
use Rattle.std.specs.Prelude.{ℕ, ◌≡◌, List, [], ◌∷◌, ◌++◌, Option, IfSome, OnSome}
use Rattle.std.specs.Io.KnownBytes.{IsAtEnd}
use Rattle.mesh_service.specs.Serving.{AppendsBeginning}
use Rattle.mesh_line_service.specs.Lines.{lines_of, TakesLines, BreaksOff}
use Rattle.mesh_line_service.specs.Replies.{IsReplyTo, AppendsReplies}
use Rattle.mesh_line_service.specs.declared.options.LineOptions.{LineOptions}

-- the reader, which had these bytes left, is at its end, and each of its lines has its reply
pub record RepliesToAll (options : LineOptions) (left unread old new : Option (List ℕ)) : Type 0 where
  pub lines : List (List ℕ)
  pub all : IfSome left (λ text. lines ≡ lines_of text)
  pub end : OnSome left (IsAtEnd unread)
  pub replied : AppendsReplies options lines old new

-- each line that was read whole has its reply; then a beginning of a line was read, which has none
pub record RepliesBeforeFailedRead (options : LineOptions) (left unread old new : Option (List ℕ)) : Type 0 where
  pub lines : List (List ℕ)
  pub rest : Option (List ℕ)
  pub read : TakesLines left rest lines
  pub broken_off : BreaksOff rest unread
  pub replied : AppendsReplies options lines old new

-- each line that was read but the last has its reply, and of the reply to the last a beginning was written
pub record RepliesBeforeFailedWrite (options : LineOptions) (left unread old new : Option (List ℕ)) : Type 0 where
  pub lines : List (List ℕ)
  pub last : List ℕ
  pub read : TakesLines left unread (lines ++ last ∷ [])
  pub whole : Option (List ℕ)
  pub replied : AppendsReplies options lines old whole
  pub reply : List ℕ
  pub to_last : IsReplyTo options last reply
  pub beginning : AppendsBeginning whole new reply
