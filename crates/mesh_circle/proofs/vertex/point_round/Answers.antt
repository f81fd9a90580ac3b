use Rattle.std.proofs.Common.{◌∙◌, ap}
use Rattle.mesh_plane.specs.Plane.{plus}
use Rattle.mesh_join.proofs.Joints.{moved_safe}
use Rattle.mesh_circle.proofs.vertex.point_round.Goals as goal

pub moved-requires : goal.moved-requires
moved-requires g c =
    moved_safe g.I.IntNumber.unit (g.I.IntNumber.value c.args.radius) c.args.center c.scale.result c.requires
    c.scale.ensures.x_bound c.scale.ensures.y_bound

pub returns : goal.returns
returns g c = c.moved.ensures ∙ ap (plus c.args.center) c.scale.ensures.value
