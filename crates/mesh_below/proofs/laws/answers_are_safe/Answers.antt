-- Answers in the safe range.
use Rattle.mesh_below.proofs.AnswerPoints.{resolution_safe}
use Rattle.mesh_below.proofs.laws.answers_are_safe.Goals as goal

pub returns : goal.returns
returns c unit edges fill options answer safe r = resolution_safe unit edges fill options answer r safe
