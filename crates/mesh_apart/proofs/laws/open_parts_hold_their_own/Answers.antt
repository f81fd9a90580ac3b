-- Parts with ways out.
use Rattle.mesh_apart.proofs.OpenParts.{open_hold}
use Rattle.mesh_apart.proofs.laws.open_parts_hold_their_own.Goals as goal

pub returns : goal.returns
returns c first second apart ways proper_first proper_second fill options x y r s = open_hold first second apart ways proper_first proper_second fill options x y r s
