-- The answers of two lists of components.
use Rattle.mesh_apart.proofs.Components.{components_two}
use Rattle.mesh_apart.proofs.laws.answers_join.Goals as goal

pub returns : goal.returns
returns c first second apart fill options x y r s = components_two first second apart fill options x y r s
