-- What is made within a limit is listed, with its nearness where that is told.
use Rattle.std.proofs.Common.{sym}
use Rattle.mesh_service.proofs.Combinations.{combined_nearly}
use Rattle.mesh_service.proofs.combined.near_line.Goals as goal

pub returns-clause-answered : goal.returns-clause-answered
returns-clause-answered g c =
    rw (sym c.request.view_is)
    (combined_nearly _ _ _ _ _ _ _ _ c.new-count.ensures c.in_ok-near.ensures.accepted c.in_ok-near.ensures.combined c.in_ok-near.ensures.within c.in_ok-told_line.ensures)
