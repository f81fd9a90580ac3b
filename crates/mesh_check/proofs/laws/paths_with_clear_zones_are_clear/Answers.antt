use Rattle.mesh_check.proofs.ZonesAbout.{zones_clear}
use Rattle.mesh_check.proofs.laws.paths_with_clear_zones_are_clear.Goals as goal

pub returns : goal.returns
returns c = zones_clear
