use Rattle.std.proofs.Common.{lit≤, ◌^◌}
use Rattle.std.specs.Prelude.{◌*ℤ◌}
use Rattle.mesh_plane.specs.Bounds.{IsSmall}
use Rattle.mesh_lattice.proofs.Arithmetic.{small_kept, small_product, small_fits}
use Rattle.mesh_lattice.proofs.exact.long_product.Goals as goal

pub overflow_mul-result : goal.overflow_mul-result
overflow_mul-result c =
    let a = small_kept (2 ^ 32) c.args.a (lit≤ tt) c.requires.a_small in
    let b = small_kept (2 ^ 66) c.args.b (lit≤ tt) c.requires.b_small in
    let s : IsSmall (2 ^ 98) (c.args.a *ℤ c.args.b) = small_product (2 ^ 32) (2 ^ 66) (2 ^ 98) c.args.a c.args.b (lit≤ tt) c.requires.a_small c.requires.b_small in
    simp (a, b) (small_fits (2 ^ 98) (c.args.a *ℤ c.args.b) (lit≤ tt) s)

pub returns-clause-value : goal.returns-clause-value
returns-clause-value c =
    let a = small_kept (2 ^ 32) c.args.a (lit≤ tt) c.requires.a_small in
    let b = small_kept (2 ^ 66) c.args.b (lit≤ tt) c.requires.b_small in
    let s : IsSmall (2 ^ 98) (c.args.a *ℤ c.args.b) = small_product (2 ^ 32) (2 ^ 66) (2 ^ 98) c.args.a c.args.b (lit≤ tt) c.requires.a_small c.requires.b_small in
    simp (a, b, small_kept (2 ^ 98) (c.args.a *ℤ c.args.b) (lit≤ tt) s)

pub returns-clause-size : goal.returns-clause-size
returns-clause-size c =
    let a = small_kept (2 ^ 32) c.args.a (lit≤ tt) c.requires.a_small in
    let b = small_kept (2 ^ 66) c.args.b (lit≤ tt) c.requires.b_small in
    let s : IsSmall (2 ^ 98) (c.args.a *ℤ c.args.b) = small_product (2 ^ 32) (2 ^ 66) (2 ^ 98) c.args.a c.args.b (lit≤ tt) c.requires.a_small c.requires.b_small in
    simp (a, b, small_kept (2 ^ 98) (c.args.a *ℤ c.args.b) (lit≤ tt) s) s
