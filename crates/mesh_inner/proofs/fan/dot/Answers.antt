use Rattle.std.proofs.Common.{lit≤, ◌^◌}
use Rattle.std.specs.Prelude.{◌+ℤ◌}
use Rattle.mesh_plane.specs.Bounds.{IsSmall}
use Rattle.mesh_lattice.proofs.Arithmetic.{small_kept, small_sum, small_fits}
use Rattle.mesh_inner.proofs.fan.dot.Goals as goal

pub overflow_add-result : goal.overflow_add-result
overflow_add-result c =
    let p = small_kept (2 ^ 64) c.product.result (lit≤ tt) c.product.ensures.size in
    let q = small_kept (2 ^ 64) c.product-2.result (lit≤ tt) c.product-2.ensures.size in
    let s : IsSmall (2 ^ 65) (c.product.result +ℤ c.product-2.result) = small_sum (2 ^ 64) (2 ^ 64) (2 ^ 65) c.product.result c.product-2.result (lit≤ tt) c.product.ensures.size c.product-2.ensures.size in
    simp (p, q) (small_fits (2 ^ 65) (c.product.result +ℤ c.product-2.result) (lit≤ tt) s)

pub returns-clause-value : goal.returns-clause-value
returns-clause-value c =
    let v = c.args.v in
    let w = c.args.w in
    let a = small_kept (2 ^ 32) v.0 (lit≤ tt) c.requires.v_small.x in
    let b = small_kept (2 ^ 32) v.1 (lit≤ tt) c.requires.v_small.y in
    let d = small_kept (2 ^ 32) w.0 (lit≤ tt) c.requires.w_small.x in
    let e = small_kept (2 ^ 32) w.1 (lit≤ tt) c.requires.w_small.y in
    let first = simp (a, d) at c.product.ensures.value in
    let second = simp (b, e) at c.product-2.ensures.value in
    let p = small_kept (2 ^ 64) c.product.result (lit≤ tt) c.product.ensures.size in
    let q = small_kept (2 ^ 64) c.product-2.result (lit≤ tt) c.product-2.ensures.size in
    let s : IsSmall (2 ^ 65) (c.product.result +ℤ c.product-2.result) = small_sum (2 ^ 64) (2 ^ 64) (2 ^ 65) c.product.result c.product-2.result (lit≤ tt) c.product.ensures.size c.product-2.ensures.size in
    simp (p, q, small_kept (2 ^ 65) (c.product.result +ℤ c.product-2.result) (lit≤ tt) s) (λ i. first i +ℤ second i)

pub returns-clause-size : goal.returns-clause-size
returns-clause-size c =
    let p = small_kept (2 ^ 64) c.product.result (lit≤ tt) c.product.ensures.size in
    let q = small_kept (2 ^ 64) c.product-2.result (lit≤ tt) c.product-2.ensures.size in
    let s : IsSmall (2 ^ 65) (c.product.result +ℤ c.product-2.result) = small_sum (2 ^ 64) (2 ^ 64) (2 ^ 65) c.product.result c.product-2.result (lit≤ tt) c.product.ensures.size c.product-2.ensures.size in
    simp (p, q, small_kept (2 ^ 65) (c.product.result +ℤ c.product-2.result) (lit≤ tt) s) s
