-- Both products are at most 2^60.
use Rattle.std.proofs.Common.{◌≡◌, ◌^◌, ◌∙◌, ap, lit≤, arith}
use Rattle.std.specs.Prelude.{◌*ℤ◌, unsigned_abs}
use Rattle.mesh_plane.specs.Plane.{dot}
use Rattle.mesh_plane.proofs.Sizes.{product_size, small_size, sum_size}
use Rattle.mesh_lattice.proofs.Arithmetic.{small_kept}
use Rattle.mesh_inner.proofs.section.size_of_product.Goals as goal

pub returns-clause-size : goal.returns-clause-size
returns-clause-size c =
    let s = c.args.step in
    let v = c.args.along in
    let e : c.unsigned_abs.result ≡ unsigned_abs (dot s v) =
    c.unsigned_abs.ensures.value ∙ ap unsigned_abs (small_kept (2 ^ 65) c.dot.result (lit≤ tt) c.dot.ensures.size ∙ c.dot.ensures.value) in
    let x = small_size (2 ^ 32) v.0 c.requires.along_small.x in
    let y = small_size (2 ^ 32) v.1 c.requires.along_small.y in
    let first = product_size s.0 v.0 (2 ^ 28) (2 ^ 32) c.requires.step_small.0 (omega (arith, x)) in
    let second = product_size s.1 v.1 (2 ^ 28) (2 ^ 32) c.requires.step_small.1 (omega (arith, y)) in
    let all = sum_size (s.0 *ℤ v.0) (s.1 *ℤ v.1) (2 ^ 60) (2 ^ 60) first second in
    omega (arith, e, all)
