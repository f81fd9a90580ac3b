use Rattle.mesh_variable_stroke.proofs.ReachOfPieces.{variable_stroke_edges_reach}
use Rattle.mesh_variable_stroke.proofs.laws.variable_stroke_edges_reach.Goals as goal

pub returns : goal.returns
returns c = variable_stroke_edges_reach
