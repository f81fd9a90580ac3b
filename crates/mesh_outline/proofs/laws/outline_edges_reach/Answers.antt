use Rattle.mesh_outline.proofs.ReachOfPieces.{outline_edges_reach}
use Rattle.mesh_outline.proofs.laws.outline_edges_reach.Goals as goal

pub returns : goal.returns
returns c = outline_edges_reach
