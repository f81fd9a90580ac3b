use Rattle.mesh_stroke.proofs.KeptRadii.{kept_radii_reach}
use Rattle.mesh_stroke.proofs.laws.kept_radii_reach.Goals as goal

pub returns : goal.returns
returns c = kept_radii_reach
