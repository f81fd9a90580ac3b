use Rattle.mesh_variable_stroke.proofs.ReachOfPieces.{variable_strokes_reach}
use Rattle.mesh_variable_stroke.proofs.laws.variable_strokes_reach.Goals as goal

pub returns : goal.returns
returns c = variable_strokes_reach
