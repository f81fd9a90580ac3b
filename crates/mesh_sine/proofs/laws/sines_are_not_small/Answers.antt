-- Each bit that is added takes less from the sine than there is to spare.
use Rattle.mesh_sine.proofs.Small.{sine_not_small}
use Rattle.mesh_sine.proofs.laws.sines_are_not_small.Goals as goal

pub returns : goal.returns
returns c = sine_not_small
