-- The quotient fits the wide type.
use Rattle.std.proofs.Common.{◌∙◌, arith}
use Rattle.std.proofs.lemmas.Int.{to_z-of_z}
use mir.Syntax.{w128}
use Rattle.mesh_num.proofs.Products.{over_unit_small, over_unit_within}
use Rattle.mesh_num.proofs.num.unit_vector.over_unit.Goals as goal

pub rounded_quotient-requires-clause-divisor : goal.rounded_quotient-requires-clause-divisor
rounded_quotient-requires-clause-divisor g c = omega (arith, c.unit.ensures.least)

pub rounded_quotient-requires-clause-divisor_size : goal.rounded_quotient-requires-clause-divisor_size
rounded_quotient-requires-clause-divisor_size g c = omega (arith, c.unit.ensures.most)

pub rounded_quotient-requires-clause-size : goal.rounded_quotient-requires-clause-size
rounded_quotient-requires-clause-size g c =
    rw (to_z-of_z w128 c.args.number c.ranges.number)
    (over_unit_small g.I.IntNumber.unit _ g.met.I.IntNumber.most_law c.requires)

pub from_i128-requires : goal.from_i128-requires
from_i128-requires g c =
    let e = rw (to_z-of_z w128 c.args.number c.ranges.number, c.unit.ensures.value) at c.rounded_quotient.ensures in
    rw (to_z-of_z w128 c.rounded_quotient.result (record { sfits = c.rounded_quotient.type_inv }))
    (over_unit_within _ g.I.IntNumber.unit _ _ g.met.I.IntNumber.half_law g.met.I.IntNumber.least_law c.requires e)

pub returns : goal.returns
returns g c =
    let e = rw (to_z-of_z w128 c.args.number c.ranges.number, c.unit.ensures.value) at c.rounded_quotient.ensures in
    c.from_i128.ensures ∙ to_z-of_z w128 c.rounded_quotient.result (record { sfits = c.rounded_quotient.type_inv }) ∙ e
