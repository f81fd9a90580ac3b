-- Both points are within the padding, so they are safe.
use Rattle.std.proofs.Common.{arith}
use Rattle.mesh_stroke.proofs.SquareCaps.{square_points_safe}
use Rattle.mesh_stroke.proofs.cap.square.add.Goals as goal

pub moved-requires : goal.moved-requires
moved-requires g c =
    let h = rw (← c.end.view_is) at c.requires in
    let least = g.met.I.IntNumber.least_law in
    rw (c.scale-outward.ensures.value)
    (square_points_safe g.I.IntNumber.unit _ (omega (arith, least)) c.end.invariant.incoming_short h).0

pub moved-requires-2 : goal.moved-requires-2
moved-requires-2 g c =
    let h = rw (← c.end.view_is) at c.requires in
    let least = g.met.I.IntNumber.least_law in
    rw (c.scale-outward.ensures.value)
    (square_points_safe g.I.IntNumber.unit _ (omega (arith, least)) c.end.invariant.incoming_short h).1

pub returns-clause-ok : goal.returns-clause-ok
returns-clause-ok g c =
    rw (← c.end.view_is)
    (rw (c.moved.ensures, c.moved-2.ensures, c.scale-outward.ensures.value) at c.push_through_both.ensures.ok)

pub returns-clause-room : goal.returns-clause-room
returns-clause-room g c =
    rw (← c.end.view_is)
    (rw (c.moved.ensures, c.moved-2.ensures, c.scale-outward.ensures.value) at c.push_through_both.ensures.room)
