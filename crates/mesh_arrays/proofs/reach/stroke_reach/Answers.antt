-- What is told, in numbers that are never none.
use Rattle.mesh_num.specs.Paths.{paths_of}
use Rattle.mesh_stroke.specs.Styles.{stroke_style_of}
use Rattle.mesh_arrays.proofs.Reaches.{answers}
use Rattle.mesh_arrays.proofs.reach.stroke_reach.Goals as goal

pub returns : goal.returns
returns g c =
    answers g.I.IntNumber.unit (stroke_style_of g.I.IntNumber.value c.args.stroke.now.style) c.args.stroke.now.closed (paths_of c.args.stroke.now.paths.items)
    c.in_ok-found.found c.or_none.result c.in_ok-found.ensures.told c.in_ok-found.ensures.holds c.or_none.ensures
