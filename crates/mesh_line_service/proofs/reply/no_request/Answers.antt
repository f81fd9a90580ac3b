-- A reason is told, or none is asked.
use Rattle.mesh_line_service.specs.Replies.{IsReplyTo}
use Rattle.mesh_line_service.proofs.ReplyLemmas.{why_told}
use Rattle.mesh_line_service.proofs.reply.no_request.Goals as goal

pub returns-then-options : goal.returns-then-options
returns-then-options c line none lies within =
    why_told c.args.options line c.args.reason.now c.tell_why.result within none c.if-options.true lies c.tell_why.ensures.told c.tell_why.ensures.memory

pub returns-else-options : goal.returns-else-options
returns-else-options c line none lies within = IsReplyTo.no_request within none c.if-options.false
