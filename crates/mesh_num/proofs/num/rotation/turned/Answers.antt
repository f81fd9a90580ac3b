-- Sums of two products of at most 2 ^ 61 fit 128 bits.
use Rattle.std.proofs.Common.{◌∙◌, ◌^◌}
use Rattle.std.specs.Prelude.{◌-ℤ◌, ◌+ℤ◌}
use Rattle.mesh_plane.proofs.Sizes.{sum_size, difference_size}
use Rattle.mesh_num.proofs.Passed.{passed_product, difference_fits, sum_fits, passed_difference, passed_sum}
use Rattle.mesh_num.proofs.num.rotation.turned.Goals as goal

pub overflow_sub-result : goal.overflow_sub-result
overflow_sub-result c = difference_fits c.product.result c.product-2.result c.product.ensures.size c.product-2.ensures.size

pub overflow_add-result : goal.overflow_add-result
overflow_add-result c = sum_fits c.product-3.result c.product-4.result c.product-3.ensures.size c.product-4.ensures.size

pub returns-clause-value : goal.returns-clause-value
returns-clause-value c =
    let a = c.product.ensures.value ∙ passed_product c.args.rotation.1 c.args.vector.0 c.requires.cosine c.requires.x in
    let b = c.product-2.ensures.value ∙ passed_product c.args.rotation.0 c.args.vector.1 c.requires.sine c.requires.y in
    let d = c.product-3.ensures.value ∙ passed_product c.args.rotation.0 c.args.vector.0 c.requires.sine c.requires.x in
    let h = c.product-4.ensures.value ∙ passed_product c.args.rotation.1 c.args.vector.1 c.requires.cosine c.requires.y in
    let x = passed_difference c.product.result c.product-2.result c.product.ensures.size c.product-2.ensures.size ∙ (λ i. a i -ℤ b i) in
    let y = passed_sum c.product-3.result c.product-4.result c.product-3.ensures.size c.product-4.ensures.size ∙ (λ i. d i +ℤ h i) in
    λ i. (x i, y i)

pub returns-clause-x_size : goal.returns-clause-x_size
returns-clause-x_size c =
    rw (passed_difference c.product.result c.product-2.result c.product.ensures.size c.product-2.ensures.size)
    (difference_size c.product.result c.product-2.result (2 ^ 61) (2 ^ 61) c.product.ensures.size c.product-2.ensures.size)

pub returns-clause-y_size : goal.returns-clause-y_size
returns-clause-y_size c =
    rw (passed_sum c.product-3.result c.product-4.result c.product-3.ensures.size c.product-4.ensures.size)
    (sum_size c.product-3.result c.product-4.result (2 ^ 61) (2 ^ 61) c.product-3.ensures.size c.product-4.ensures.size)
