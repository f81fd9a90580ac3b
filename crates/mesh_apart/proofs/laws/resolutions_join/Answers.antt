-- Resolutions of lists that lie apart.
use Rattle.mesh_apart.proofs.Resolutions.{joint}
use Rattle.mesh_apart.proofs.laws.resolutions_join.Goals as goal

pub returns : goal.returns
returns c first second apart fill options x y z r s arranged = joint first second apart fill options x y z r s arranged
