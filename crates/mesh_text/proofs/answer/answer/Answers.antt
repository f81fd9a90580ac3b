-- What was told is the line of the reply.
use Rattle.std.proofs.Common.{length, ap, ◌∙◌}
use Rattle.std.specs.Prelude.{string_bytes}
use Rattle.mesh_request.specs.Failures.{failure_line}
use Rattle.mesh_text.specs.Replies.{IsReplyTo, outcome_of}
use Rattle.mesh_text.proofs.Replies.{failure_replies}
use Rattle.mesh_text.proofs.answer.answer.Goals as goal
use Rattle.mesh_arrays.specs.declared.outcome.Outcome.TheVariants.{Answered}

pub returns-in-Ok : goal.returns-in-Ok
returns-in-Ok c = record {
  line = string_bytes c.in-Ok.line;
  told = Answered;
  reply = IsReplyTo.answer c.in-Ok.ensures.response;
  size = c.hand_over.ensures.size ∙ ap length c.as_bytes.ensures.value;
  handed = rw c.as_bytes.ensures.value at c.hand_over.ensures.handed;
}

pub returns-in-Err : goal.returns-in-Err
returns-in-Err c = record {
  line = failure_line c.in-Err.failure;
  told = outcome_of c.in-Err.failure;
  reply = failure_replies _ c.args.request.now c.in-Err.failure (rw c.in-Err.is at c.respond.ensures.response);
  size = c.hand_over_failure.ensures.size;
  handed = c.hand_over_failure.ensures.handed;
}
