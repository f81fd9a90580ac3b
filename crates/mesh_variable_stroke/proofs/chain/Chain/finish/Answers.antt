-- A chain with no section and no step is the circle of its vertex.
use Rattle.std.proofs.Common.{◌∙◌, sym}
use Rattle.mesh_variable_stroke.proofs.Stepping.{bare_finish}
use Rattle.mesh_variable_stroke.proofs.chain.Chain.finish.Goals as goal

pub returns-clause-ok : goal.returns-clause-ok
returns-clause-ok g c =
    let seen = rw (← c.self-inside.view_is) at c.self.view_is in
    rw (bare_finish g.I.IntNumber.unit c.args.sweeper.now _ _ _ seen c.in_default.is (cc)
    (sym c.are_butt.ensures ∙ c.if-are_butt.false)) at c.add_circle.ensures.ok

pub returns-clause-thin : goal.returns-clause-thin
returns-clause-thin g c thin =
    let seen = rw (← c.self-inside.view_is) at c.self.view_is in
    c.add_circle.ensures.room (rw (← seen) at thin.start)
