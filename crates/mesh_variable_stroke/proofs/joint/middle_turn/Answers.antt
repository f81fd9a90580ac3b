-- The vertices of sections are safe.
use Rattle.std.proofs.Common.{subst, sym}
use Rattle.mesh_plane.specs.Bounds.{IsSafe}
use Rattle.mesh_circle.proofs.Circles.{center_safe}
use Rattle.mesh_variable_stroke.proofs.joint.middle_turn.Goals as goal

pub turn_between-requires-clause-a : goal.turn_between-requires-clause-a
turn_between-requires-clause-a g c =
    subst (IsSafe g.I.IntNumber.unit) (sym c.start_center.ensures)
    (center_safe g.I.IntNumber.unit c.args.previous.now.a c.requires.previous.a)

pub turn_between-requires-clause-b : goal.turn_between-requires-clause-b
turn_between-requires-clause-b g c =
    subst (IsSafe g.I.IntNumber.unit) (sym c.end_center.ensures)
    (center_safe g.I.IntNumber.unit c.args.previous.now.b c.requires.previous.b)

pub turn_between-requires-clause-c : goal.turn_between-requires-clause-c
turn_between-requires-clause-c g c =
    subst (IsSafe g.I.IntNumber.unit) (sym c.start_center-2.ensures)
    (center_safe g.I.IntNumber.unit c.args.next.now.a c.requires.next.a)

pub turn_between-requires-clause-d : goal.turn_between-requires-clause-d
turn_between-requires-clause-d g c =
    subst (IsSafe g.I.IntNumber.unit) (sym c.end_center-2.ensures)
    (center_safe g.I.IntNumber.unit c.args.next.now.b c.requires.next.b)
