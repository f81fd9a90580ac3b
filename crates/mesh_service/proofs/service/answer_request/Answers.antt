-- No limit is set, so none is passed.
use Rattle.std.proofs.Common.{Err, refl, ap}
use Rattle.mesh_drawing.proofs.Refusals.{refusal_unlimited}
use Rattle.mesh_service.proofs.service.answer_request.Goals as goal

pub without_limit-requires : goal.without_limit-requires
without_limit-requires c = λ e. c.in-Err.ensures.given_up (ap Err e)

pub returns-in-Err-clause-refused : goal.returns-in-Err-clause-refused
returns-in-Err-clause-refused c = refusal_unlimited (Err c.in-Err.error) (Err c.without_limit.result) c.without_limit.result _ (ap Err c.without_limit.ensures) refl c.in-Err.ensures.refused
