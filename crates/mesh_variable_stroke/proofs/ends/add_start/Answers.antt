-- The arc begins at a contact of its circle.
use Rattle.mesh_variable_stroke.proofs.Safe.{start_swept}
use Rattle.mesh_variable_stroke.proofs.Stepping.{start_turned}
use Rattle.mesh_variable_stroke.proofs.ends.add_start.Goals as goal

pub add_arc-requires : goal.add_arc-requires
add_arc-requires g c =
    start_swept g.I.IntNumber.unit c.args.first.now _ _ c.first.view_is c.start_center.ensures c.requires

pub returns-in-Round-clause-ok : goal.returns-in-Round-clause-ok
returns-in-Round-clause-ok g c =
    rw (start_turned g.I.IntNumber.unit c.args.sweeper.now _ _ _ _ _ c.first.view_is c.start_center.ensures
    c.sweep_at.ensures c.in-Round.is) at c.add_arc.ensures.ok
