-- What is told of the shapes is listed beside them.
use Rattle.std.proofs.lemmas.Result.{IfOk-weaker}
use Rattle.mesh_num.specs.Paths.{shapes_of}
use Rattle.mesh_drawing.specs.Drawn.{drawn_of}
use Rattle.mesh_service.proofs.ToldDistances.{listed_measured}
use Rattle.mesh_service.proofs.line.measured_line.Goals as goal

pub returns : goal.returns
returns g c =
    let drawn = drawn_of g.I.IntNumber.value c.args.drawing.now in
    IfOk-weaker c.told_shapes_line.result _ _
    (λ line written. listed_measured c.args.distances g.I.IntNumber.unit drawn c.args.nearness (shapes_of c.args.shapes.now.items) c.in_ok-told.told _ c.in_ok-told.ensures written)
    c.told_shapes_line.ensures
