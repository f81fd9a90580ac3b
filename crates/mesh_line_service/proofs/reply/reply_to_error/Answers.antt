-- The reason that the line holds no request is told, or a want of memory.
use Rattle.std.proofs.Common.{Err, inl, subst}
use Rattle.mesh_service.specs.Reasons.{IsReadOf}
use Rattle.mesh_service.specs.declared.text.TextError.{TextError}
use Rattle.mesh_line_service.specs.Replies.{IsReplyTo}
use Rattle.mesh_line_service.proofs.reply.reply_to_error.Goals as goal

pub returns-in-NoRequest : goal.returns-in-NoRequest
returns-in-NoRequest c line read within =
    let (none, lies) = subst (λ (error : TextError). IsReadOf line (Err error)) c.in-NoRequest.is read in
    c.no_request.ensures line none lies within

pub returns-in-OutOfMemory : goal.returns-in-OutOfMemory
returns-in-OutOfMemory c line read within =
    IsReplyTo.no_memory (inl (subst (λ (error : TextError). IsReadOf line (Err error)) c.in-OutOfMemory.is read))
