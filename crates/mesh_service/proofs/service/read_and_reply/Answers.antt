-- What was read is answered, or the failure to read it is told.
use Rattle.mesh_service.proofs.Replies.{served, served_unread}
use Rattle.mesh_service.proofs.service.read_and_reply.Goals as goal

pub returns-in-Ok : goal.returns-in-Ok
returns-in-Ok g c =
    served (g.R.Read.remaining c.args.reader.now) _ _ _ c.in-Ok.request.items c.answer-answer.result _ c.in-Ok.ensures.bytes c.in-Ok.ensures.end
    (c.answer-answer.ensures c.in-Ok.request.items (rw c.deref.ensures.value at c.read_text-read.ensures))
    (rw c.of.ensures at c.write_answer-status.ensures)

pub returns-in-Err : goal.returns-in-Err
returns-in-Err g c =
    served_unread (g.R.Read.remaining c.args.reader.now) _ _ _ c.in-Err.failure _ c.in-Err.ensures.err c.in-Err.ensures.memory
    (rw c.of_unread.ensures at c.write_answer-status-in-Err.ensures)
