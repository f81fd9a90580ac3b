use Rattle.mesh_check.proofs.ClearPaths.{stay_clear}
use Rattle.mesh_check.proofs.laws.paths_stay_clear.Goals as goal

pub returns : goal.returns
returns c = stay_clear
