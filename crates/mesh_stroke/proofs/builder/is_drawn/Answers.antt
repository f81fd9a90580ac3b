-- One is below the radius.
use Rattle.mesh_stroke.proofs.builder.is_drawn.Goals as goal

pub returns : goal.returns
returns g c = rw (c.ONE.ensures, g.met.I.IntNumber.value_one) at c.is_less.ensures
