use Rattle.mesh_variable_stroke.proofs.ReachOfAnswers.{variable_stroke_answers_reach}
use Rattle.mesh_variable_stroke.proofs.laws.variable_stroke_answers_reach.Goals as goal

pub returns : goal.returns
returns c = variable_stroke_answers_reach
