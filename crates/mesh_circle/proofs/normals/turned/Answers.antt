-- Sums of two products of at most 2 ^ 96 fit 128 bits.
use Rattle.std.proofs.Common.{◌≡◌, rules, refl}
use Rattle.std.specs.Prelude.{◌*ℤ◌, ◌-ℤ◌, ◌+ℤ◌}
use Rattle.std.proofs.lemmas.Int.{to_z-of_z}
use mir.Syntax.{w128}
use Rattle.mesh_circle.proofs.Directions.{difference_fits, sum_fits}
use Rattle.mesh_circle.proofs.normals.turned.Goals as goal

pub returns-clause-x : goal.returns-clause-x
returns-clause-x c =
    let p = to_z-of_z w128 c.product.result (search rules) in
    let q = to_z-of_z w128 c.product-2.result (search rules) in
    let z =
    to_z-of_z w128 (c.product.result -ℤ c.product-2.result)
    (difference_fits c.product.result c.product-2.result c.product.ensures.size c.product-2.ensures.size) in
    let a : c.product.result ≡ (c.args.across *ℤ c.args.x) = search rules in
    let b : c.product-2.result ≡ (c.args.along *ℤ c.args.y) = search rules in
    simp (p, q, z) (rw (a, b) refl)

pub returns-clause-y : goal.returns-clause-y
returns-clause-y c =
    let p = to_z-of_z w128 c.product-3.result (search rules) in
    let q = to_z-of_z w128 c.product-4.result (search rules) in
    let z =
    to_z-of_z w128 (c.product-3.result +ℤ c.product-4.result)
    (sum_fits c.product-3.result c.product-4.result c.product-3.ensures.size c.product-4.ensures.size) in
    let a : c.product-3.result ≡ (c.args.across *ℤ c.args.y) = search rules in
    let b : c.product-4.result ≡ (c.args.along *ℤ c.args.x) = search rules in
    simp (p, q, z) (rw (a, b) refl)

pub overflow_sub-result : goal.overflow_sub-result
overflow_sub-result c =
    let p = to_z-of_z w128 c.product.result (search rules) in
    let q = to_z-of_z w128 c.product-2.result (search rules) in
    rw (p, q) (difference_fits c.product.result c.product-2.result c.product.ensures.size c.product-2.ensures.size)

pub overflow_add-result : goal.overflow_add-result
overflow_add-result c =
    let p = to_z-of_z w128 c.product-3.result (search rules) in
    let q = to_z-of_z w128 c.product-4.result (search rules) in
    rw (p, q) (sum_fits c.product-3.result c.product-4.result c.product-3.ensures.size c.product-4.ensures.size)
