use Rattle.std.proofs.Common.{lit≤, ◌^◌}
use Rattle.std.specs.Prelude.{◌-ℤ◌}
use Rattle.mesh_plane.specs.Bounds.{IsSmall}
use Rattle.mesh_lattice.proofs.Arithmetic.{small_difference}
use Rattle.mesh_meeting.proofs.Kept.{small_fits, small_kept}
use Rattle.mesh_meeting.proofs.vectors.cross.Goals as goal

pub overflow_sub-result : goal.overflow_sub-result
overflow_sub-result c =
    let p = small_kept (2 ^ 62) c.product.result (lit≤ tt) c.product.ensures.size in
    let q = small_kept (2 ^ 62) c.product-2.result (lit≤ tt) c.product-2.ensures.size in
    let s : IsSmall (2 ^ 63) (c.product.result -ℤ c.product-2.result) = small_difference (2 ^ 62) (2 ^ 62) (2 ^ 63) c.product.result c.product-2.result (lit≤ tt) c.product.ensures.size c.product-2.ensures.size in
    simp (p, q) (small_fits (2 ^ 63) (c.product.result -ℤ c.product-2.result) (lit≤ tt) s)

pub returns-clause-value : goal.returns-clause-value
returns-clause-value c =
    let v = c.args.v in
    let w = c.args.w in
    let a = small_kept (2 ^ 31) v.0 (lit≤ tt) c.requires.v_small.x in
    let b = small_kept (2 ^ 31) v.1 (lit≤ tt) c.requires.v_small.y in
    let d = small_kept (2 ^ 31) w.0 (lit≤ tt) c.requires.w_small.x in
    let e = small_kept (2 ^ 31) w.1 (lit≤ tt) c.requires.w_small.y in
    let first = simp (a, e) at c.product.ensures.value in
    let second = simp (b, d) at c.product-2.ensures.value in
    let p = small_kept (2 ^ 62) c.product.result (lit≤ tt) c.product.ensures.size in
    let q = small_kept (2 ^ 62) c.product-2.result (lit≤ tt) c.product-2.ensures.size in
    let s : IsSmall (2 ^ 63) (c.product.result -ℤ c.product-2.result) = small_difference (2 ^ 62) (2 ^ 62) (2 ^ 63) c.product.result c.product-2.result (lit≤ tt) c.product.ensures.size c.product-2.ensures.size in
    simp (p, q, small_kept (2 ^ 63) (c.product.result -ℤ c.product-2.result) (lit≤ tt) s) (λ i. first i -ℤ second i)

pub returns-clause-size : goal.returns-clause-size
returns-clause-size c =
    let p = small_kept (2 ^ 62) c.product.result (lit≤ tt) c.product.ensures.size in
    let q = small_kept (2 ^ 62) c.product-2.result (lit≤ tt) c.product-2.ensures.size in
    let s : IsSmall (2 ^ 63) (c.product.result -ℤ c.product-2.result) = small_difference (2 ^ 62) (2 ^ 62) (2 ^ 63) c.product.result c.product-2.result (lit≤ tt) c.product.ensures.size c.product-2.ensures.size in
    simp (p, q, small_kept (2 ^ 63) (c.product.result -ℤ c.product-2.result) (lit≤ tt) s) s
