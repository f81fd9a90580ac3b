use Rattle.mesh_stroke.proofs.ReachOfPieces.{stroke_edges_reach}
use Rattle.mesh_stroke.proofs.laws.stroke_edges_reach.Goals as goal

pub returns : goal.returns
returns c = stroke_edges_reach
