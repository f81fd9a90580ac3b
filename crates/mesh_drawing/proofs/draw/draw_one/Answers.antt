-- What is in range and answered may be drawn.
use Rattle.std.proofs.Common.{refl}
use Rattle.mesh_drawing.proofs.Refusals.{answer_drawable}
use Rattle.mesh_drawing.proofs.draw.draw_one.Goals as goal

pub returns-clause-accepted : goal.returns-clause-accepted
returns-clause-accepted g c =
    answer_drawable c.listed.result g.I.IntNumber.unit (g.D.Drawable.drawn c.args.drawing.now) (c.in_ok-validate.ensures.safe.0 refl) c.listed.ensures.unfit
