-- What is refused may not be drawn, and where nothing is refused all is in range.
use Rattle.std.proofs.Common.{sym}
use Rattle.std.proofs.lemmas.Option.{none-some}
use Rattle.mesh_drawing.specs.Drawn.{drawn_of}
use Rattle.mesh_drawing.proofs.Firsts.{point_past}
use Rattle.mesh_drawing.proofs.refusal.find_refusal.Goals as goal

pub returns-in-Some-clause-none : goal.returns-in-Some-clause-none
returns-in-Some-clause-none g c = (
  λ e. absurd (none-some _ (sym e)),
  λ may. absurd (point_past g.I.IntNumber.unit (drawn_of g.I.IntNumber.value c.args.drawing.now) c.in-Some.place c.in-Some.ensures may.safe),
)
