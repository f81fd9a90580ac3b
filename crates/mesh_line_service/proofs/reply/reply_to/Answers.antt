-- What was read of the line is answered, or told in place of an answer.
use Rattle.mesh_line_service.proofs.reply.reply_to.Goals as goal

pub returns-in-Ok : goal.returns-in-Ok
returns-in-Ok c within = c.reply_to_request.ensures c.args.line.now (rw c.in-Ok.is at c.read_text.ensures) within

pub returns : goal.returns
returns c within = c.reply_to_error.ensures c.args.line.now (rw c.in-Err.is at c.read_text.ensures) within
