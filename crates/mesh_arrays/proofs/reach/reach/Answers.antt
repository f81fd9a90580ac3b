-- What was read is measured, or the failure is handed on.
use Rattle.std.proofs.Common.{refl}
use Rattle.mesh_arrays.proofs.reach.reach.Goals as goal

pub returns-in-Ok : goal.returns-in-Ok
returns-in-Ok g c = rw c.in-Ok.is c.drawn_reach.ensures

pub returns-in-Err : goal.returns-in-Err
returns-in-Err g c = rw c.in-Err.is refl
