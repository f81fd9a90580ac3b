use Rattle.mesh_check.proofs.AlongPaths.{paths_along}
use Rattle.mesh_check.proofs.laws.paths_go_along.Goals as goal

pub returns : goal.returns
returns c = paths_along
