-- Steps round a closed list.
use Rattle.mesh_plane.proofs.ClosedLists.{boundary_steps}
use Rattle.mesh_plane.proofs.laws.closed_lists_telescope.Goals as goal

pub returns : goal.returns
returns c f points = boundary_steps f points
