-- The arc begins at a contact of the circle at which the previous section ends.
use Rattle.mesh_variable_stroke.proofs.Safe.{right_swept}
use Rattle.mesh_variable_stroke.proofs.joint.add_right.Goals as goal

pub add_arc-requires : goal.add_arc-requires
add_arc-requires g c =
    right_swept g.I.IntNumber.unit (c.args.previous.now, c.args.next.now) _ _ _ c.previous.view_is c.next.view_is
    c.end_center.ensures c.requires.good
