-- What was told is the line of the reply.
use Rattle.std.proofs.Common.{length, ap, ◌∙◌}
use Rattle.std.specs.Prelude.{string_bytes}
use Rattle.mesh_request.specs.Failures.{failure_line}
use Rattle.mesh_text.specs.Replies.{IsReplyTo, IsReplyWithin, outcome_of}
use Rattle.mesh_text.proofs.Replies.{failure_replies}
use Rattle.mesh_text.proofs.answer.answer_within.Goals as goal
use Rattle.mesh_arrays.specs.declared.outcome.Outcome.TheVariants.{Answered}

pub returns-in-Ok : goal.returns-in-Ok
returns-in-Ok c = record {
  line = string_bytes c.in-Ok.line;
  told = Answered;
  reply = IsReplyWithin.reply (IsReplyTo.answer c.in-Ok.ensures.response);
  size = c.hand_over.ensures.size ∙ ap length c.as_bytes.ensures.value;
  handed = rw c.as_bytes.ensures.value at c.hand_over.ensures.handed;
}

pub returns-in-Err-Failed : goal.returns-in-Err-Failed
returns-in-Err-Failed c =
    let response = rw (c.in-Err-Failed.is, c.in-Err-Failed.field-0-is) at c.respond_near.ensures.response in
    record {
      line = failure_line c.in-Err-Failed.failure;
      told = outcome_of c.in-Err-Failed.failure;
      reply = IsReplyWithin.reply (failure_replies _ c.args.request.now c.in-Err-Failed.failure response);
      size = c.hand_over_failure.ensures.size;
      handed = c.hand_over_failure.ensures.handed;
    }

pub returns-in-Err-TooManySplits : goal.returns-in-Err-TooManySplits
returns-in-Err-TooManySplits c =
    c.hand_over_limit.ensures c.args.request.now (rw (c.in-Err-TooManySplits.is, c.in-Err-TooManySplits.field-0-is) at c.respond_near.ensures.response)
