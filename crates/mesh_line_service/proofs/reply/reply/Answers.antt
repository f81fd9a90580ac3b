-- What the service answers, or what is told of a line that is not held, is the reply.
use Rattle.std.proofs.Common.{inl, subst}
use Rattle.mesh_line_service.specs.Held.{Holds}
use Rattle.mesh_line_service.specs.Replies.{IsReplyTo}
use Rattle.mesh_line_service.proofs.ReplyLemmas.{too_long_told}
use Rattle.mesh_line_service.proofs.reply.reply.Goals as goal

pub returns-in-Whole : goal.returns-in-Whole
returns-in-Whole c text holds =
    let (same, within) = subst (Holds c.args.options.longest text c.args.line.now.bytes.items) c.in-Whole.is holds in
    let items = c.deref.ensures.value in
    (rw (items, same) at c.reply_to.ensures) within

pub returns-in-TooLong : goal.returns-in-TooLong
returns-in-TooLong c text holds =
    let (bound, many) = subst (Holds c.args.options.longest text c.args.line.now.bytes.items) c.in-TooLong.is holds in
    too_long_told c.args.options c.in-TooLong.most text c.too_long.result c.too_long.ensures.told c.too_long.ensures.memory bound many

pub returns-in-NoMemory : goal.returns-in-NoMemory
returns-in-NoMemory c text holds = IsReplyTo.no_memory (inl (subst (Holds c.args.options.longest text c.args.line.now.bytes.items) c.in-NoMemory.is holds))
