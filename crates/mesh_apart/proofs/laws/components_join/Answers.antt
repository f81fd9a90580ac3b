-- The answers of components, one by one.
use Rattle.mesh_apart.proofs.Components.{components_join}
use Rattle.mesh_apart.proofs.laws.components_join.Goals as goal

pub returns : goal.returns
returns c components apart edges same fill options answers each = components_join components apart edges same fill options answers each
