use Rattle.mesh_check.proofs.ClearPaths.{own_clear}
use Rattle.mesh_check.proofs.laws.paths_are_clear_of_themselves.Goals as goal

pub returns : goal.returns
returns c = own_clear
