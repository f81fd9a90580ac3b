-- Both halves of a stroke make the whole.
use Rattle.mesh_stroke.proofs.Halves.{halves_make_the_whole}
use Rattle.mesh_stroke.proofs.laws.halves_make_the_whole.Goals as goal

pub returns : goal.returns
returns c = halves_make_the_whole
