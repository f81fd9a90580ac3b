use Rattle.std.proofs.Common.{refl}
use Rattle.mesh_arc.proofs.steps.Steps.new.Goals as goal

pub invariant_of-result : goal.invariant_of-result
invariant_of-result g c = c.requires

pub returns : goal.returns
returns g c = refl
