use Rattle.std.proofs.Common.{◌≡◌, arith, rules}
use Rattle.std.specs.Prelude.{pos}
use Rattle.std.proofs.lemmas.Int.{to_z-of_z, to_z_pos}
use mir.Syntax.{w128}
use mir.Val.{SFits, to_z}
use Rattle.mesh_circle.specs.Tangents.{at_radius, IsWithinRadius}
use Rattle.mesh_circle.proofs.Contacts.{at_radius_within}
use Rattle.mesh_circle.proofs.offsets.at_radius.Goals as goal

pub returns-clause-value : goal.returns-clause-value
returns-clause-value c =
    let p : SFits w128 c.rounded_product.result = search rules in
    let q : SFits w128 c.rounded_product-2.result = search rules in
    let r = to_z-of_z w128 c.args.radius c.ranges.radius in
    let l : to_z w128 c.args.length ≡ pos c.args.length =
    to_z_pos w128 c.args.length (omega (arith, c.requires.bounded.most)) in
    let x : SFits w128 c.args.normal.0 = search rules in
    let y : SFits w128 c.args.normal.1 = search rules in
    let e : c.rounded_product.result ≡ (at_radius c.args.length c.args.radius c.args.normal).0 =
    simp (r, l, to_z-of_z w128 c.args.normal.0 x) at c.rounded_product.ensures in
    let f : c.rounded_product-2.result ≡ (at_radius c.args.length c.args.radius c.args.normal).1 =
    simp (r, l, to_z-of_z w128 c.args.normal.1 y) at c.rounded_product-2.ensures in
    rw (to_z-of_z w128 c.rounded_product.result p, to_z-of_z w128 c.rounded_product-2.result q) (λ i. (e i, f i))

pub returns-clause-within : goal.returns-clause-within
returns-clause-within c =
    let p : SFits w128 c.rounded_product.result = search rules in
    let q : SFits w128 c.rounded_product-2.result = search rules in
    let r = to_z-of_z w128 c.args.radius c.ranges.radius in
    let l : to_z w128 c.args.length ≡ pos c.args.length =
    to_z_pos w128 c.args.length (omega (arith, c.requires.bounded.most)) in
    let x : SFits w128 c.args.normal.0 = search rules in
    let y : SFits w128 c.args.normal.1 = search rules in
    let e : c.rounded_product.result ≡ (at_radius c.args.length c.args.radius c.args.normal).0 =
    simp (r, l, to_z-of_z w128 c.args.normal.0 x) at c.rounded_product.ensures in
    let f : c.rounded_product-2.result ≡ (at_radius c.args.length c.args.radius c.args.normal).1 =
    simp (r, l, to_z-of_z w128 c.args.normal.1 y) at c.rounded_product-2.ensures in
    let b : IsWithinRadius c.args.radius (at_radius c.args.length c.args.radius c.args.normal) =
    at_radius_within c.args.length c.args.radius c.args.normal c.requires.radius c.requires.bounded.some
    c.requires.bounded.short in
    rw (to_z-of_z w128 c.rounded_product.result p, to_z-of_z w128 c.rounded_product-2.result q, e, f) b
