-- What was read, drawn and written is the answer, or the refusal, of the request.
use Rattle.std.proofs.Common.{ap, Err}
use Rattle.mesh_service.proofs.Replies.{answer_responds, refusal_responds, unread_responds}
use Rattle.mesh_service.proofs.service.answer.Goals as goal

pub returns-in_ok-answer_request-in-Ok : goal.returns-in_ok-answer_request-in-Ok
returns-in_ok-answer_request-in-Ok c text read =
    answer_responds text c.in-Ok.request c.in_ok-answer_request-in-Ok.field-0 (rw c.in-Ok.is at read) c.in_ok-answer_request-in-Ok.ensures.answered

pub returns-in_err-answer_request-in-Ok : goal.returns-in_err-answer_request-in-Ok
returns-in_err-answer_request-in-Ok c text read =
    refusal_responds text c.in-Ok.request _ c.from_residual.result (rw c.in-Ok.is at read) (λ e. c.in_err-answer_request-in-Ok.ensures.refused.0 (ap Err e)) c.from_residual.ensures.1

pub returns-in-Err : goal.returns-in-Err
returns-in-Err c text read = unread_responds text c.in-Err.error _ (rw c.in-Err.is at read) c.from.ensures
