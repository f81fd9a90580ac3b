-- The line that was read last has its reply, or a beginning of it.
use Rattle.std.proofs.Common.{[], ◌∷◌, ◌++◌}
use Rattle.mesh_line_service.specs.Private.Steps.{reply_text}
use Rattle.mesh_line_service.proofs.ReplyLemmas.{taken_in_turn, appended_reply}
use Rattle.mesh_line_service.proofs.service.serve_lines.Goals as goal

pub returns-in-Err-write_reply-clause-unwritten : goal.returns-in-Err-write_reply-clause-unwritten
returns-in-Err-write_reply-clause-unwritten g c _ =
    let (lines, taken, replied) = c.loop-before.invariant in
    let (text, read, holds) = rw c.in-Ok-Some.field-0-is at c.in-Ok-Some.ensures.line in
    record {
      lines = lines;
      last = text;
      read = taken_in_turn _ _ _ lines (text ∷ []) taken read;
      whole = g.W.Write.contents c.loop-before.writer;
      replied = replied;
      reply = reply_text c.reply-reply.result;
      to_last = c.reply-reply.ensures text holds;
      beginning = c.write_reply.ensures.beginning;
    }

pub loop-before-preserved : goal.loop-before-preserved
loop-before-preserved g c =
    let (lines, taken, replied) = c.loop-before.invariant in
    let (text, read, holds) = rw c.in-Ok-Some.field-0-is at c.in-Ok-Some.ensures.line in (
      lines ++ text ∷ [],
      taken_in_turn _ _ _ lines (text ∷ []) taken read,
      appended_reply c.args.options lines text (reply_text c.reply-reply.result) _ _ _ replied (c.reply-reply.ensures text holds) c.in-Ok.ensures.whole,
    )
