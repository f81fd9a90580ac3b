-- The clearance of a stroke's paths, and how near to them it holds points.
use Rattle.mesh_service.proofs.distances.stroke_distances.Goals as goal

pub returns : goal.returns
returns g c = record { clearance = c.in_ok-clearance.ensures; reach = (c.in_ok-reach.ensures.told, c.in_ok-reach.ensures.holds) }
