use Rattle.mesh_outline.proofs.ReachOfPieces.{outlines_reach}
use Rattle.mesh_outline.proofs.laws.outlines_reach.Goals as goal

pub returns : goal.returns
returns c = outlines_reach
