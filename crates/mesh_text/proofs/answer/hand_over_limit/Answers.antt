-- What was told is that the limit was passed, or a want of memory.
use Rattle.std.proofs.Common.{length, ap, ◌∙◌}
use Rattle.mesh_request.specs.Failures.{failure_line}
use Rattle.mesh_request.specs.declared.failure.Failure.TheVariants.{Refused}
use Rattle.mesh_offset.specs.declared.error.IntOutlineError.TheVariants.{OutOfMemory as MemoryRefused}
use Rattle.mesh_service.proofs.Requested.{request_has_bytes}
use Rattle.mesh_service.specs.Lines.{too_many_text}
use Rattle.mesh_text.specs.Replies.{IsReplyTo, IsReplyWithin}
use Rattle.mesh_text.proofs.answer.hand_over_limit.Goals as goal
use Rattle.mesh_arrays.specs.declared.outcome.Outcome.TheVariants.{OutOfMemory, TooManySplits}

pub returns-in-Ok : goal.returns-in-Ok
returns-in-Ok c request past =
    let is = c.as_bytes.ensures.value ∙ c.in-Ok.ensures in
    record {
      line = too_many_text c.args.most;
      told = TooManySplits;
      reply = IsReplyWithin.given_up past;
      size = c.hand_over.ensures.size ∙ ap length is;
      handed = rw is at c.hand_over.ensures.handed;
    }

pub returns-in-Err : goal.returns-in-Err
returns-in-Err c request past = record {
  line = failure_line (Refused MemoryRefused);
  told = OutOfMemory;
  reply = IsReplyWithin.reply (IsReplyTo.no_memory (request_has_bytes request past.request past.requested));
  size = rw c.from.ensures at c.hand_over_failure.ensures.size;
  handed = rw c.from.ensures at c.hand_over_failure.ensures.handed;
}
