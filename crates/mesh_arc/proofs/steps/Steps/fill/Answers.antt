-- The list is that of the definition, or there is none.
use Rattle.std.proofs.Common.{sym, ◌∙◌, arith}
use Rattle.mesh_arc.proofs.Filling.{stepped_none, stepped_some, stepped_count}
use Rattle.mesh_arc.proofs.steps.Steps.fill.Goals as goal

pub returns-then-is_within-clause-ok : goal.returns-then-is_within-clause-ok
returns-then-is_within-clause-ok g c = c.clear.ensures.items ∙ stepped_none _ _ _ _ _ (sym c.is_within.ensures ∙ c.if-is_within.true)

pub returns-in-Err-clause-room : goal.returns-in-Err-clause-room
returns-in-Err-clause-room g c h =
    let n = stepped_count c.args.self.now c.args.from c.args.to (sym c.is_within.ensures ∙ c.if-is_within.false) in
    c.in-Err.ensures.room (omega (arith, n, h, c.clear.ensures.capacity))

pub returns-clause-ok : goal.returns-clause-ok
returns-clause-ok g c = c.in_default.ensures.ok ∙ stepped_some c.args.self.now c.args.from c.args.to (sym c.is_within.ensures ∙ c.if-is_within.false)
