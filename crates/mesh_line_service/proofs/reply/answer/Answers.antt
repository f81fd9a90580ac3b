-- The answer is made as options ask it.
use Rattle.mesh_line_service.proofs.ReplyLemmas.{answered_within}
use Rattle.mesh_line_service.proofs.reply.answer.Goals as goal

pub returns : goal.returns
returns c line read =
    answered_within c.args.options line c.args.request.now c.answer_within.result read c.answer_within.ensures.answered c.answer_within.ensures.refused c.answer_within.ensures.given_up
