-- Twice the size of the radius.
use Rattle.std.proofs.Common.{arith}
use Rattle.std.proofs.lemmas.Int.{ints}
use Rattle.mesh_stroke.proofs.cap.square.padding.Goals as goal

pub returns : goal.returns
returns g c = omega (arith, ints)
