use Rattle.mesh_inner.proofs.Strokes.{stroke_answers_hold}
use Rattle.mesh_inner.proofs.laws.stroke_answers_hold_what_is_near.Goals as goal

pub returns : goal.returns
returns c = stroke_answers_hold
