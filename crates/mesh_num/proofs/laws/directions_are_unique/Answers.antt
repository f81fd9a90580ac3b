-- The direction as a function.
use Rattle.mesh_num.proofs.Directed.{direction_of_is, is_direction_of}
use Rattle.mesh_num.proofs.laws.directions_are_unique.Goals as goal

pub returns : goal.returns
returns c unit v n some = (λ h. is_direction_of unit v n h, λ e. rw e (direction_of_is unit v some))
