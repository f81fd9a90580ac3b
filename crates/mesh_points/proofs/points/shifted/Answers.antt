use Rattle.std.proofs.Common.{rules}
use Rattle.mesh_points.specs.Private.Filed.{shifted}
use Rattle.mesh_points.proofs.points.shifted.Goals as goal

pub returns : goal.returns
unfolding shifted
returns c = search rules
