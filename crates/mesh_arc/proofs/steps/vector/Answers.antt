-- A direction's components are at most the unit.
use Rattle.std.proofs.Common.{◌∙◌, rules}
use Rattle.mesh_num.specs.Direction.{IsShort}
use Rattle.mesh_arc.proofs.Sizes.{short_safe}
use Rattle.mesh_arc.proofs.steps.vector.Goals as goal

pub returns-clause-value : goal.returns-clause-value
returns-clause-value g c =
    let x = c.to_wide.ensures.value ∙ c.x.ensures in
    let y = c.to_wide-2.ensures.value ∙ c.y.ensures in
    c.new.ensures ∙ (λ i. (x i, y i))

pub returns-clause-safe : goal.returns-clause-safe
returns-clause-safe g c =
    let x = c.to_wide.ensures.value ∙ c.x.ensures in
    let y = c.to_wide-2.ensures.value ∙ c.y.ensures in
    let s : IsShort g.I.IntNumber.unit c.args.direction = search rules in
    rw (c.new.ensures ∙ (λ i. (x i, y i))) (short_safe g.I.IntNumber.unit c.args.direction g.met.I.IntNumber.least_law s)
