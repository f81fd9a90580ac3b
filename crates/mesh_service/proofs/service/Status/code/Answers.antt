-- A refusal and a failed write have the status 1, and are not unreadable.
use Rattle.std.proofs.Common.{refl, arith}
use Rattle.mesh_service.proofs.Replies.{not_both}
use Rattle.mesh_service.proofs.service.Status.code.Goals as goal

pub returns-in-Refused-clause-refused : goal.returns-in-Refused-clause-refused
returns-in-Refused-clause-refused c = (λ _. c.in-Refused.is, λ _. refl)

pub returns-in-Refused-clause-unreadable : goal.returns-in-Refused-clause-unreadable
returns-in-Refused-clause-unreadable c = (λ e. absurd (omega arith), λ unreadable. absurd (not_both c.args.self c.in-Refused.is unreadable))
