-- The quotient is at most the product of the radius and the cosine.
use Rattle.std.proofs.Common.{◌≡◌, ◌≤◌, ◌^◌, arith, rules, subst, sym}
use Rattle.std.specs.Prelude.{ℤ, unsigned_abs}
use Rattle.std.proofs.lemmas.Int.{ints}
use mir.Syntax.{w128}
use mir.Val.{to_z, of_z}
use Rattle.mesh_num.specs.Quotient.{rounded_product}
use Rattle.mesh_join.proofs.Quotients.{product_small}
use Rattle.mesh_join.proofs.miter.clip_reach.Goals as goal

pub returns-clause-size : goal.returns-clause-size
returns-clause-size g c =
    let v : to_z w128 (of_z w128 c.rounded_product.result) ≡ rounded_product (g.I.IntNumber.value c.args.radius) c.args.cosine c.args.sine = search rules in
    let r = c.widen.ensures.range in
    let most = g.met.I.IntNumber.most_law in
    subst (λ (z : ℤ). unsigned_abs z ≤ 2 ^ 62) (sym v)
    (product_small (2 ^ 31) (2 ^ 31) (g.I.IntNumber.value c.args.radius) c.args.cosine c.args.sine (omega (arith, ints, c.requires.least)) (omega (arith, ints, r.low, r.high, most)) (omega (arith, ints, c.ranges.cosine)))
