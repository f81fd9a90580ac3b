use Rattle.mesh_check.proofs.AlongPaths.{apart_clear}
use Rattle.mesh_check.proofs.laws.leading_apart_is_clear.Goals as goal

pub returns : goal.returns
returns c = apart_clear
