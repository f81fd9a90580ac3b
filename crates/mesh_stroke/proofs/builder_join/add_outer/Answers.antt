-- The corner is as a join asks.
use Rattle.std.proofs.Common.{◌≤◌, ◌^◌}
use Rattle.mesh_stroke.proofs.Corners.{joint_met}
use Rattle.mesh_stroke.proofs.builder_join.add_outer.Goals as goal

pub add-requires : goal.add-requires
add-requires g c =
    let least : 2 ^ 14 ≤ g.I.IntNumber.unit = g.met.I.IntNumber.least_law in
    let corner = rw (← c.previous.view_is, ← c.next.view_is) at c.requires.corner in
    let facing = rw (← c.previous.view_is, ← c.next.view_is) at c.requires.facing in
    joint_met g.I.IntNumber.unit least (g.I.IntNumber.value c.args.radius) c.args.join.now _ _ corner facing
