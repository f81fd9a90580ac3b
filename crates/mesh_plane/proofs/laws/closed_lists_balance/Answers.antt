-- Balance of a closed list.
use Rattle.mesh_plane.proofs.Balance.{boundary_balanced}
use Rattle.mesh_plane.proofs.laws.closed_lists_balance.Goals as goal

pub returns : goal.returns
returns c points = boundary_balanced points
