-- The quotients by the unit are small.
use Rattle.std.proofs.Common.{◌≡◌, ◌^◌, ◌∙◌, ap, arith, refl, rules}
use Rattle.std.specs.Prelude.{pos}
use Rattle.std.proofs.lemmas.Int.{ints}
use mir.Syntax.{w128}
use mir.Val.{to_z, of_z}
use Rattle.mesh_num.specs.Quotient.{rounded_product}
use Rattle.mesh_join.proofs.Quotients.{product_small}
use Rattle.mesh_join.proofs.miter.scaled.Goals as goal

pub returns-clause-value : goal.returns-clause-value
returns-clause-value g c =
    let d = c.coordinates_of-x.ensures.value in
    let u : c.widen-unit.result ≡ pos g.I.IntNumber.unit = c.widen-unit.ensures.value ∙ ap g.I.IntNumber.value c.UNIT.ensures ∙ g.met.I.IntNumber.value_unit in
    let x : to_z w128 (of_z w128 c.rounded_product.result) ≡ rounded_product c.coordinates_of-x.result.0 c.args.reach c.widen-unit.result = search rules in
    let y : to_z w128 (of_z w128 c.rounded_product-2.result) ≡ rounded_product c.coordinates_of-x.result.1 c.args.reach c.widen-unit.result = search rules in
    rw (x, y, u, d) refl

pub returns-clause-narrow : goal.returns-clause-narrow
returns-clause-narrow g c =
    let n = c.coordinates_of-x.ensures.narrow in
    let least = g.met.I.IntNumber.least_law in
    let u : c.widen-unit.result ≡ pos g.I.IntNumber.unit = c.widen-unit.ensures.value ∙ ap g.I.IntNumber.value c.UNIT.ensures ∙ g.met.I.IntNumber.value_unit in
    let x : to_z w128 (of_z w128 c.rounded_product.result) ≡ rounded_product c.coordinates_of-x.result.0 c.args.reach c.widen-unit.result = search rules in
    let y : to_z w128 (of_z w128 c.rounded_product-2.result) ≡ rounded_product c.coordinates_of-x.result.1 c.args.reach c.widen-unit.result = search rules in
    record {
      x = rw x (omega (arith, product_small (2 ^ 30) (2 ^ 62) c.coordinates_of-x.result.0 c.args.reach c.widen-unit.result (omega (arith, ints, u, least)) n.x c.requires));
      y = rw y (omega (arith, product_small (2 ^ 30) (2 ^ 62) c.coordinates_of-x.result.1 c.args.reach c.widen-unit.result (omega (arith, ints, u, least)) n.y c.requires));
    }
