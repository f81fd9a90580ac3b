-- The number is told as it is.
use Rattle.std.proofs.Common.{refl}
use Rattle.mesh_arrays.specs.Telling.{IsTold, LeavesNumber}
use Rattle.mesh_arrays.proofs.room.hand_over_number.Goals as goal

pub returns-in-Ok : goal.returns-in-Ok
returns-in-Ok c = IsTold.told c.in-Ok.is (LeavesNumber.told refl)

pub returns-in-Err : goal.returns-in-Err
returns-in-Err c = rw c.of.ensures (IsTold.refused c.in-Err.is refl)
