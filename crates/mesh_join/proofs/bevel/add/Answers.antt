-- One edge, from end to end.
use Rattle.std.proofs.Common.{append-nil}
use Rattle.mesh_join.proofs.bevel.add.Goals as goal

pub returns-clause-ok : goal.returns-clause-ok
returns-clause-ok g c = rw append-nil c.push_non_degenerate.ensures.ok

pub returns-clause-room : goal.returns-clause-room
returns-clause-room g c room = c.push_non_degenerate.ensures.room (rw append-nil at room)
