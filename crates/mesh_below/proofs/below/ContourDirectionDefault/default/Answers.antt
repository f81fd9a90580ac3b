use Rattle.std.proofs.Common.{refl}
use Rattle.mesh_below.proofs.below.ContourDirectionDefault.default.Goals as goal

pub returns : goal.returns
returns c = refl
