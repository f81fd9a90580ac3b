use Rattle.mesh_reach.proofs.Lists.{lists_reach}
use Rattle.mesh_reach.proofs.laws.lists_reach_as_their_points.Goals as goal

pub returns : goal.returns
returns c = lists_reach
