use Rattle.mesh_stroke.proofs.ReachOfAnswers.{stroke_answers_reach}
use Rattle.mesh_stroke.proofs.laws.stroke_answers_reach.Goals as goal

pub returns : goal.returns
returns c = stroke_answers_reach
