-- Where the paths cannot be read, there is no such stroke.
use Rattle.mesh_drawing.specs.Drawn.{Drawn, drawn_of}
use Rattle.mesh_arrays.specs.Drawings.{IsStrokeOf}
use Rattle.mesh_arrays.proofs.Readings.{unread_also}
use Rattle.mesh_arrays.proofs.drawing.stroke.Goals as goal

pub returns-in_err-paths : goal.returns-in_err-paths
returns-in_err-paths g c =
    let asks : Drawn → Type 0 = IsStrokeOf g.I.IntNumber.unit g.P.Flat.item_of c.args.points.now c.args.ends.now c.args.style.now (c.args.start_points.now, c.args.end_points.now) in
    unread_also (drawn_of g.I.IntNumber.value) asks c.from_residual-in_err-paths.result _ c.from_residual-in_err-paths.ensures.1 c.in_err-paths.ensures.0
    (λ unread drawn (h : asks drawn). c.in_err-paths.ensures.1 unread h.paths h.given)
