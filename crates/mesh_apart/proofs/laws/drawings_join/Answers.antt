-- The answers of drawings that are apart.
use Rattle.mesh_apart.proofs.Drawings.{drawings_join}
use Rattle.mesh_apart.proofs.laws.drawings_join.Goals as goal

pub returns : goal.returns
returns c fill options drawings apart edges same = drawings_join fill options drawings apart edges same
