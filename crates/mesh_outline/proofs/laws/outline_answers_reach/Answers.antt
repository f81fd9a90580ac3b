use Rattle.mesh_outline.proofs.ReachOfAnswers.{outline_answers_reach}
use Rattle.mesh_outline.proofs.laws.outline_answers_reach.Goals as goal

pub returns : goal.returns
returns c = outline_answers_reach
