-- What is made is listed.
use Rattle.std.proofs.Common.{sym}
use Rattle.mesh_service.proofs.Combinations.{combined_plainly}
use Rattle.mesh_service.proofs.combined.plain_line.Goals as goal

pub returns-clause-answered : goal.returns-clause-answered
returns-clause-answered g c =
    rw (sym c.request.view_is)
    (combined_plainly _ _ _ _ c.in_ok-answer.ensures.accepted c.in_ok-answer.ensures.combined c.in_ok-answer_line.ensures)
