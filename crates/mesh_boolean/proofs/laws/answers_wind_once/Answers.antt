-- By the winding of what was split.
use Rattle.mesh_boolean.proofs.ZoneEdges.{answer_once}
use Rattle.mesh_boolean.proofs.laws.answers_wind_once.Goals as goal

pub returns : goal.returns
returns c edges fill options answer regions small forward = answer_once edges fill options answer regions small forward
