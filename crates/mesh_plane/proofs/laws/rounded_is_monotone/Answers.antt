-- Monotony of rounded quotients.
use Rattle.mesh_plane.proofs.Rounding.{rounded_monotone}
use Rattle.mesh_plane.proofs.laws.rounded_is_monotone.Goals as goal

pub returns : goal.returns
returns c a b d h l = rounded_monotone a b d h l
