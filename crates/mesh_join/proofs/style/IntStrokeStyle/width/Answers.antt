-- The width alone is another.
use Rattle.std.proofs.Common.{refl}
use Rattle.mesh_join.proofs.style.IntStrokeStyle.width.Goals as goal

pub returns : goal.returns
returns g c = refl
