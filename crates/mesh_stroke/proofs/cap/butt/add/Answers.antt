-- The one edge runs from the right to the left.
use Rattle.mesh_stroke.proofs.cap.butt.add.Goals as goal

pub returns-clause-ok : goal.returns-clause-ok
returns-clause-ok g c = rw (← c.end.view_is) c.push_straight.ensures.ok

pub returns-clause-room : goal.returns-clause-room
returns-clause-room g c = rw (← c.end.view_is) c.push_straight.ensures.room
