-- The answers of two lists that lie apart.
use Rattle.mesh_apart.proofs.Shapes.{shapes_joined}
use Rattle.mesh_apart.proofs.laws.shapes_join.Goals as goal

pub returns : goal.returns
returns c first second apart fill options x y r s hold = (shapes_joined first second apart fill options x y r s hold).joined
