use Rattle.std.proofs.Common.{◌∙◌, Bool, ◌&&◌, sym, ap}
use Rattle.std.specs.Prelude.{pos, int_lt}
use Rattle.std.proofs.lemmas.Int.{to_z-of_z}
use lib.Signed.{lt_z}
use mir.Syntax.{w128}
use Rattle.mesh_arc.specs.Arcs.{ahead}
use Rattle.mesh_arc.proofs.steps.Steps.is_good.Goals as goal

pub returns-then-is_within : goal.returns-then-is_within
returns-then-is_within g c =
    let e = to_z-of_z w128 c.ahead.result (record { sfits = c.ahead.type_inv }) ∙ c.ahead.ensures.value ∙ (λ i. ahead (c.self.view_is i).sense c.args.from c.args.to) in
    (λ i. lt_z (pos 0) (e i))
    ∙ sym (ap (λ (b : Bool). b && int_lt (pos 0) (ahead c.args.self.now.sense c.args.from c.args.to)) (sym c.is_within.ensures ∙ c.if-is_within.true))

pub returns-else-is_within : goal.returns-else-is_within
returns-else-is_within g c =
    c.if-is_within.false
    ∙ sym (ap (λ (b : Bool). b && int_lt (pos 0) (ahead c.args.self.now.sense c.args.from c.args.to)) (sym c.is_within.ensures ∙ c.if-is_within.false))
