-- What answers the request, and what is told in its place, is the reply.
use Rattle.mesh_offset.specs.declared.error.IntOutlineError.TheVariants.{CoordinateOutOfRange, OutOfMemory}
use Rattle.mesh_line_service.specs.Replies.{IsReplyTo}
use Rattle.mesh_line_service.proofs.ReplyLemmas.{refusal_told, too_many_told}
use Rattle.mesh_line_service.proofs.reply.reply_to_request.Goals as goal

pub returns-in-Ok : goal.returns-in-Ok
returns-in-Ok c line read within = IsReplyTo.answer within (rw c.in-Ok.is at (c.answer.ensures line read))

pub returns-in-Err-TooManySplits : goal.returns-in-Err-TooManySplits
returns-in-Err-TooManySplits c line read within =
    too_many_told c.args.options line c.too_many_splits.result within (rw (c.in-Err-TooManySplits.is, c.in-Err-TooManySplits.field-0-is) at (c.answer.ensures line read))
    c.too_many_splits.ensures.told c.too_many_splits.ensures.memory

pub returns-in-Err-CoordinateOutOfRange : goal.returns-in-Err-CoordinateOutOfRange
returns-in-Err-CoordinateOutOfRange c line read within =
    refusal_told c.args.options line CoordinateOutOfRange within (rw (c.in-Err-CoordinateOutOfRange.is, c.in-Err-CoordinateOutOfRange.field-0-is) at (c.answer.ensures line read))

pub returns-in-Err-OutOfMemory : goal.returns-in-Err-OutOfMemory
returns-in-Err-OutOfMemory c line read within =
    refusal_told c.args.options line OutOfMemory within (rw (c.in-Err-OutOfMemory.is, c.in-Err-OutOfMemory.field-0-is) at (c.answer.ensures line read))
