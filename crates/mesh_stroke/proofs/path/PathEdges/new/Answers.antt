-- The edges of the path are still to come.
use Rattle.mesh_stroke.proofs.PathWalk.{path_begun}
use Rattle.mesh_stroke.proofs.path.PathEdges.new.Goals as goal

pub returns : goal.returns
returns g c =
    path_begun c.args.closed c.args.points.now c.in-Some.rest.now c.in-Some.first.now c.back_to-back.result c.in-Some.ensures.cases.0 c.back_to-back.ensures
