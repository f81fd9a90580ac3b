-- Both edges run ahead.
use Rattle.mesh_join.proofs.Joints.{both_ahead, none_ahead}
use Rattle.mesh_join.proofs.joint.Joint.runs_through.Goals as goal

pub returns-then-runs_ahead : goal.returns-then-runs_ahead
returns-then-runs_ahead g c =
    rw (← c.self.view_is)
    (both_ahead _ _ _ _ (rw (← c.self.view_is) at c.runs_ahead.ensures) c.if-runs_ahead.true
    (rw (← c.self.view_is) at c.runs_ahead-then-runs_ahead.ensures))

pub returns-else-runs_ahead : goal.returns-else-runs_ahead
returns-else-runs_ahead g c =
    rw (← c.self.view_is) (none_ahead _ _ _ (rw (← c.self.view_is) at c.runs_ahead.ensures) c.if-runs_ahead.false)
