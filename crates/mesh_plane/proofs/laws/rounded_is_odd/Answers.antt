-- Oddness of rounded quotients.
use Rattle.mesh_plane.proofs.Rounding.{rounded_neg}
use Rattle.mesh_plane.proofs.laws.rounded_is_odd.Goals as goal

pub returns : goal.returns
returns c a d h = rounded_neg a d h
