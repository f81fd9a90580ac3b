use Rattle.std.proofs.Common.{◌≡◌, ◌^◌, lit≤, ◌∙◌, ap, subst, arith}
use Rattle.std.specs.Prelude.{ℤ, ℕ, ◌+ℤ◌}
use mir.Syntax.{w128}
use mir.Val.{to_z, of_z}
use Rattle.std.proofs.lemmas.Int.{ints}
use Rattle.mesh_plane.specs.Bounds.{IsSmall}
use Rattle.mesh_plane.specs.Plane.{Point, Edge, cross}
use Rattle.mesh_plane.proofs.Whole.{linear, multiplied}
use Rattle.mesh_lattice.specs.Boundary.{middle}
use Rattle.mesh_lattice.proofs.Arithmetic.{small_fits, small_kept}
use Rattle.mesh_boundary.specs.Private.Slants.{IsSlant}
use Rattle.mesh_boundary.proofs.slanted.Slant.middle_across.Goals as goal

sum_small : (y z : ℤ) → IsSmall (2 ^ 65) y → IsSmall (2 ^ 65) z → IsSmall (2 ^ 66) (y +ℤ z)
sum_small y z s t = record { low = omega (arith, ints, s.low, t.low); high = omega (arith, ints, s.high, t.high) }

cross_middle : (d : Point) (e : Edge) → cross d e.0 +ℤ cross d e.1 ≡ cross d (middle e)
cross_middle d e = simp multiplied (omega (arith, linear))

sum_kept : (y z : ℤ) → IsSmall (2 ^ 65) y → IsSmall (2 ^ 65) z → to_z w128 (of_z w128 (to_z w128 (of_z w128 y) +ℤ to_z w128 (of_z w128 z))) ≡ y +ℤ z
sum_kept y z s t =
    (λ i. to_z w128 (of_z w128 (small_kept (2 ^ 65) y (lit≤ tt) s i +ℤ small_kept (2 ^ 65) z (lit≤ tt) t i))) ∙ small_kept (2 ^ 66) (y +ℤ z) (lit≤ tt) (sum_small y z s t)

pub overflow_add-result : goal.overflow_add-result
overflow_add-result c =
    let y = c.across.result in
    let z = c.across-2.result in
    rw (small_kept (2 ^ 65) y (lit≤ tt) c.across.ensures.size, small_kept (2 ^ 65) z (lit≤ tt) c.across-2.ensures.size)
    (small_fits (2 ^ 66) (y +ℤ z) (lit≤ tt) (sum_small y z c.across.ensures.size c.across-2.ensures.size))

pub returns-clause-value : goal.returns-clause-value
returns-clause-value c =
    let direction : c.self.inside.direction ≡ c.args.self.0 = ap (λ (v : (ℤ × ℤ) × (ℤ × ℕ)). v.0) c.self.view_is in
    sum_kept c.across.result c.across-2.result c.across.ensures.size c.across-2.ensures.size
    ∙ ((λ i. c.across.ensures.value i +ℤ c.across-2.ensures.value i) ∙ (cross_middle c.self.inside.direction c.args.e ∙ ap (λ (d : Point). cross d (middle c.args.e)) direction))

pub returns-clause-size : goal.returns-clause-size
returns-clause-size c =
    rw (sum_kept c.across.result c.across-2.result c.across.ensures.size c.across-2.ensures.size) (sum_small c.across.result c.across-2.result c.across.ensures.size c.across-2.ensures.size)

pub returns-clause-slant : goal.returns-clause-slant
returns-clause-slant c = subst IsSlant c.self.view_is c.self.invariant
