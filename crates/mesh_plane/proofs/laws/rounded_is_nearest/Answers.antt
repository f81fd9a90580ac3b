-- Distance of rounded quotients.
use Rattle.mesh_plane.proofs.Rounding.{rounded_sign, rounded_not_above, rounded_not_below}
use Rattle.mesh_plane.proofs.laws.rounded_is_nearest.Goals as goal

pub returns : goal.returns
returns c a d h = record { sign = rounded_sign a d h; at_most = rounded_not_above a d; above = rounded_not_below a d h }
