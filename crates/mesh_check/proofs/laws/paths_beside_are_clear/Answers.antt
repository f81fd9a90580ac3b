use Rattle.mesh_check.proofs.ClearPaths.{beside_clear}
use Rattle.mesh_check.proofs.laws.paths_beside_are_clear.Goals as goal

pub returns : goal.returns
returns c = beside_clear
