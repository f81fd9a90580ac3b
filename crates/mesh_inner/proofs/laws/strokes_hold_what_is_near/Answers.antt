use Rattle.mesh_inner.proofs.Strokes.{strokes_hold}
use Rattle.mesh_inner.proofs.laws.strokes_hold_what_is_near.Goals as goal

pub returns : goal.returns
returns c = strokes_hold
