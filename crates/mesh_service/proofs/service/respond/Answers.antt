-- What was read is answered, and a request that may not be answered is refused.
use Rattle.mesh_service.proofs.Replies.{refusal_told}
use Rattle.mesh_service.proofs.service.respond.Goals as goal

pub returns-clause-response : goal.returns-clause-response
returns-clause-response c = c.answer.ensures c.args.request.now c.read_text.ensures

pub returns-clause-not_accepted : goal.returns-clause-not_accepted
returns-clause-not_accepted c = refusal_told c.args.request.now c.answer.result (returns-clause-response c)
