use Rattle.mesh_clearance.proofs.Paths.{near_points_wind}
use Rattle.mesh_clearance.proofs.Points.{crossing_separation}
use Rattle.mesh_clearance.proofs.laws.near_points_wind_as_vertices.Goals as goal

pub returns : goal.returns
returns c = near_points_wind
