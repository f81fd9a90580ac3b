-- The clearance of an outline's contours, and no reach.
use Rattle.std.proofs.Common.{refl}
use Rattle.mesh_service.proofs.distances.outline_distances.Goals as goal

pub returns : goal.returns
returns g c = record { clearance = c.in_ok-clearance.ensures; reach = refl }
