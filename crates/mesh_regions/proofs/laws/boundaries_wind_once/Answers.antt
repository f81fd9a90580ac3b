-- The winding of the boundary.
use Rattle.mesh_regions.proofs.SplitBoundary.{boundary_winds}
use Rattle.mesh_regions.proofs.laws.boundaries_wind_once.Goals as goal

pub returns : goal.returns
returns c es bs fill split empty is m some q = boundary_winds es bs fill split empty is m some q
