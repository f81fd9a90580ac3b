-- The test is that of the sense.
use Rattle.std.proofs.Common.{rules}
use Rattle.std.proofs.lemmas.Int.{to_z-of_z}
use mir.Syntax.{w128}
use Rattle.mesh_plane.specs.Plane.{turn}
use Rattle.mesh_join.proofs.Joints.{left_ahead, right_ahead}
use Rattle.mesh_join.proofs.joint.Joint.runs_ahead.Goals as goal

pub returns-in-Counterclockwise : goal.returns-in-Counterclockwise
returns-in-Counterclockwise g c =
    let r = to_z-of_z w128 c.turn-turn.result (search rules) in
    let t = rw (c.coordinates.ensures.value, c.coordinates-2.ensures.value, c.coordinates-3.ensures.value) at c.turn-turn.ensures in
    rw (← c.self.view_is, c.in-Counterclockwise.is, r, t) (left_ahead (turn c.self.inside.center c.args.from c.args.to))

pub returns-in-Clockwise : goal.returns-in-Clockwise
returns-in-Clockwise g c =
    let r = to_z-of_z w128 c.turn-turn.result (search rules) in
    let t = rw (c.coordinates.ensures.value, c.coordinates-2.ensures.value, c.coordinates-3.ensures.value) at c.turn-turn.ensures in
    rw (← c.self.view_is, c.in-Clockwise.is, r, t) (right_ahead (turn c.self.inside.center c.args.from c.args.to))
