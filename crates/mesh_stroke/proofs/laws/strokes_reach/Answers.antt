use Rattle.mesh_stroke.proofs.ReachOfPieces.{strokes_reach}
use Rattle.mesh_stroke.proofs.laws.strokes_reach.Goals as goal

pub returns : goal.returns
returns c = strokes_reach
