use Rattle.std.proofs.Common.{◌≡◌, ◌^◌, lit≤, ◌∙◌, ap, arith}
use Rattle.std.specs.Prelude.{ℤ, pos, ◌*ℤ◌}
use mir.Syntax.{w128}
use mir.Val.{to_z, of_z}
use Rattle.std.proofs.lemmas.Int.{ints}
use Rattle.mesh_plane.specs.Bounds.{IsSmall}
use Rattle.mesh_plane.specs.Plane.{Point, cross}
use Rattle.mesh_plane.specs.Winding.{refined}
use Rattle.mesh_plane.proofs.Whole.{linear, multiplied}
use Rattle.mesh_lattice.proofs.Arithmetic.{small_fits, small_kept}
use Rattle.mesh_boundary.proofs.slanted.fine_across.Goals as goal

twice_small : (z : ℤ) → IsSmall (2 ^ 65) z → IsSmall (2 ^ 66) (pos 2 *ℤ z)
twice_small z s = record { low = omega (arith, ints, s.low); high = omega (arith, ints, s.high) }

cross_twice : (d p : Point) → pos 2 *ℤ cross d p ≡ cross d (refined 2 p)
cross_twice d p = simp multiplied (omega (arith, linear))

twice_kept : (z : ℤ) → IsSmall (2 ^ 65) z → to_z w128 (of_z w128 (pos 2 *ℤ to_z w128 (of_z w128 z))) ≡ pos 2 *ℤ z
twice_kept z s =
    ap (λ (y : ℤ). to_z w128 (of_z w128 (pos 2 *ℤ y))) (small_kept (2 ^ 65) z (lit≤ tt) s) ∙ small_kept (2 ^ 66) (pos 2 *ℤ z) (lit≤ tt) (twice_small z s)

pub overflow_mul-result : goal.overflow_mul-result
overflow_mul-result c =
    let z = c.across.result in
    rw (small_kept (2 ^ 65) z (lit≤ tt) c.across.ensures.size) (small_fits (2 ^ 66) (pos 2 *ℤ z) (lit≤ tt) (twice_small z c.across.ensures.size))

pub returns-clause-value : goal.returns-clause-value
returns-clause-value c =
    twice_kept c.across.result c.across.ensures.size ∙ (ap (λ (z : ℤ). pos 2 *ℤ z) c.across.ensures.value ∙ cross_twice c.args.direction c.args.p)

pub returns-clause-size : goal.returns-clause-size
returns-clause-size c = rw (twice_kept c.across.result c.across.ensures.size) (twice_small c.across.result c.across.ensures.size)
