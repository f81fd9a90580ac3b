use Rattle.std.proofs.Common.{lit≤, ◌^◌}
use Rattle.std.specs.Prelude.{◌*ℤ◌}
use Rattle.mesh_plane.specs.Bounds.{IsSmall}
use Rattle.mesh_lattice.proofs.Arithmetic.{small_product}
use Rattle.mesh_meeting.proofs.Kept.{small_kept}
use Rattle.mesh_meeting.proofs.vectors.product.Goals as goal

pub returns-clause-size : goal.returns-clause-size
returns-clause-size c =
    let a = small_kept (2 ^ 31) c.args.a (lit≤ tt) c.requires.a_small in
    let b = small_kept (2 ^ 31) c.args.b (lit≤ tt) c.requires.b_small in
    let s : IsSmall (2 ^ 62) (c.args.a *ℤ c.args.b) = small_product (2 ^ 31) (2 ^ 31) (2 ^ 62) c.args.a c.args.b (lit≤ tt) c.requires.a_small c.requires.b_small in
    simp (a, b, small_kept (2 ^ 62) (c.args.a *ℤ c.args.b) (lit≤ tt) s) s

pub returns-clause-value : goal.returns-clause-value
returns-clause-value c =
    let a = small_kept (2 ^ 31) c.args.a (lit≤ tt) c.requires.a_small in
    let b = small_kept (2 ^ 31) c.args.b (lit≤ tt) c.requires.b_small in
    let s : IsSmall (2 ^ 62) (c.args.a *ℤ c.args.b) = small_product (2 ^ 31) (2 ^ 31) (2 ^ 62) c.args.a c.args.b (lit≤ tt) c.requires.a_small c.requires.b_small in
    simp (a, b, small_kept (2 ^ 62) (c.args.a *ℤ c.args.b) (lit≤ tt) s)
