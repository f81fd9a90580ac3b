-- The line is written whole, or a beginning of it.
use Rattle.std.proofs.Common.{inl, inr, refl}
use Rattle.mesh_service.proofs.service.write_answer.Goals as goal

pub returns-in-Ok : goal.returns-in-Ok
returns-in-Ok g c = inl (refl, c.in-Ok.ensures.whole)

pub returns-in-Err : goal.returns-in-Err
returns-in-Err g c = inr (refl, c.print.ensures.beginning)
