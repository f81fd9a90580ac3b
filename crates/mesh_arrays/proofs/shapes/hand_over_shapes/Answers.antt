-- There are shapes, which are put, or there are none.
use Rattle.std.proofs.Common.{refl}
use Rattle.mesh_arrays.specs.Telling.{IsTold}
use Rattle.mesh_arrays.proofs.shapes.hand_over_shapes.Goals as goal

pub returns-in-Err : goal.returns-in-Err
returns-in-Err g c = rw c.of.ensures (IsTold.refused c.in-Err.is refl)

pub returns : goal.returns
returns g c = IsTold.told c.in-Ok.is (record { put = c.put_in.ensures; told = c.counts.ensures })
