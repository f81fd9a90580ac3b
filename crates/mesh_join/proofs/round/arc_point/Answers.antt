use Rattle.mesh_join.proofs.Joints.{moved_safe}
use Rattle.mesh_join.proofs.round.arc_point.Goals as goal

pub moved-requires : goal.moved-requires
moved-requires g c =
    moved_safe g.I.IntNumber.unit (g.I.IntNumber.value c.joint.inside.radius) c.joint.inside.center c.scale.result
    (rw (← c.joint.view_is) at c.requires) c.scale.ensures.x_bound c.scale.ensures.y_bound
