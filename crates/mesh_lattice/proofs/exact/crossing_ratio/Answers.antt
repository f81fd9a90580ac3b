use Rattle.std.proofs.Common.{lit≤, ◌^◌, ◌∙◌, ap}
use Rattle.std.specs.Prelude.{ℤ, ◌+ℤ◌, ◌-ℤ◌, ◌*ℤ◌}
use Rattle.std.proofs.lemmas.Int.{to_z-of_z}
use mir.Syntax.{w32}
use Rattle.mesh_plane.specs.Bounds.{IsSmall}
use Rattle.mesh_lattice.proofs.Arithmetic.{small_kept, small_more, small_sum, small_difference, small_fits, i32_small}
use Rattle.mesh_lattice.proofs.exact.crossing_ratio.Goals as goal

pub long_product-requires-2-clause-b_small : goal.long_product-requires-2-clause-b_small
long_product-requires-2-clause-b_small c =
    simp (small_kept (2 ^ 65) c.args.s.0 (lit≤ tt) c.requires.x) (small_more (2 ^ 65) (2 ^ 66) c.args.s.0 (lit≤ tt) c.requires.x)

pub overflow_add-result : goal.overflow_add-result
overflow_add-result c =
    let p = c.long_product.result in
    let q = c.long_product-2.result in
    let s : IsSmall (2 ^ 99) (p +ℤ q) = small_sum (2 ^ 98) (2 ^ 98) (2 ^ 99) p q (lit≤ tt) c.long_product.ensures.size c.long_product-2.ensures.size in
    simp (small_kept (2 ^ 98) p (lit≤ tt) c.long_product.ensures.size, small_kept (2 ^ 98) q (lit≤ tt) c.long_product-2.ensures.size)
    (small_fits (2 ^ 99) (p +ℤ q) (lit≤ tt) s)

pub returns-clause-value : goal.returns-clause-value
returns-clause-value c =
    let p = c.long_product.result in
    let q = c.long_product-2.result in
    let s = c.args.s in
    let a = to_z-of_z w32 c.args.a c.ranges.a in
    let b = to_z-of_z w32 c.args.b c.ranges.b in
    let wide = small_kept (2 ^ 32) c.args.a (lit≤ tt) (i32_small c.args.a c.ranges.a) in
    let x = small_kept (2 ^ 65) s.0 (lit≤ tt) c.requires.x in
    let y = small_kept (2 ^ 65) s.1 (lit≤ tt) c.requires.y in
    let d : IsSmall (2 ^ 66) (s.0 -ℤ s.1) = small_difference (2 ^ 65) (2 ^ 65) (2 ^ 66) s.0 s.1 (lit≤ tt) c.requires.x c.requires.y in
    let z = small_kept (2 ^ 66) (s.0 -ℤ s.1) (lit≤ tt) d in
    let first = simp (a, wide, x, y, z) at c.long_product.ensures.value in
    let e = simp (a, b) at c.difference.ensures.value in
    let f = small_kept (2 ^ 32) c.difference.result (lit≤ tt) c.difference.ensures.size in
    let second = simp (f, x) at c.long_product-2.ensures.value in
    let t : IsSmall (2 ^ 99) (p +ℤ q) = small_sum (2 ^ 98) (2 ^ 98) (2 ^ 99) p q (lit≤ tt) c.long_product.ensures.size c.long_product-2.ensures.size in
    let g = small_kept (2 ^ 98) p (lit≤ tt) c.long_product.ensures.size in
    let h = small_kept (2 ^ 98) q (lit≤ tt) c.long_product-2.ensures.size in
    let k = small_kept (2 ^ 99) (p +ℤ q) (lit≤ tt) t in
    let over = second ∙ ap (λ (n : ℤ). n *ℤ s.0) e in
    simp (g, h, k, x, y, z) (λ i. (first i +ℤ over i, s.0 -ℤ s.1))

pub returns-clause-size : goal.returns-clause-size
returns-clause-size c =
    let p = c.long_product.result in
    let q = c.long_product-2.result in
    let s = c.args.s in
    let x = small_kept (2 ^ 65) s.0 (lit≤ tt) c.requires.x in
    let y = small_kept (2 ^ 65) s.1 (lit≤ tt) c.requires.y in
    let d : IsSmall (2 ^ 66) (s.0 -ℤ s.1) = small_difference (2 ^ 65) (2 ^ 65) (2 ^ 66) s.0 s.1 (lit≤ tt) c.requires.x c.requires.y in
    let z = small_kept (2 ^ 66) (s.0 -ℤ s.1) (lit≤ tt) d in
    let t : IsSmall (2 ^ 99) (p +ℤ q) = small_sum (2 ^ 98) (2 ^ 98) (2 ^ 99) p q (lit≤ tt) c.long_product.ensures.size c.long_product-2.ensures.size in
    let g = small_kept (2 ^ 98) p (lit≤ tt) c.long_product.ensures.size in
    let h = small_kept (2 ^ 98) q (lit≤ tt) c.long_product-2.ensures.size in
    let k = small_kept (2 ^ 99) (p +ℤ q) (lit≤ tt) t in
    simp (g, h, k, x, y, z)
    (record { x = small_more (2 ^ 99) (2 ^ 100) (p +ℤ q) (lit≤ tt) t; y = small_more (2 ^ 66) (2 ^ 100) (s.0 -ℤ s.1) (lit≤ tt) d })
