-- What was read is answered, and a request that may not be answered is refused.
use Rattle.mesh_service.proofs.Replies.{near_refusal_told}
use Rattle.mesh_service.proofs.near.respond_near.Goals as goal

pub returns-clause-response : goal.returns-clause-response
returns-clause-response c = c.answer_read.ensures c.args.request.now c.read_text.ensures

pub returns-clause-not_accepted : goal.returns-clause-not_accepted
returns-clause-not_accepted c = near_refusal_told c.args.telling c.args.request.now c.answer_read.result (returns-clause-response c)
