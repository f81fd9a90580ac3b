-- The distance of the centers against the difference of the radii.
use Rattle.std.proofs.Common.{◌≤◌, ◌^◌, ◌∙◌, ap, arith, rules}
use Rattle.std.specs.Prelude.{unsigned_abs}
use Rattle.std.proofs.Math.Nat.{mul-le-mul}
use Rattle.std.proofs.lemmas.Int.{to_z-of_z}
use mir.Syntax.{w128}
use mir.Val.{SFits}
use Rattle.mesh_circle.proofs.Circles.{centers_apart, vector_made, nested_made}
use Rattle.mesh_circle.proofs.circle.Circle.is_nested_with.Goals as goal

pub sqr_length-requires : goal.sqr_length-requires
sqr_length-requires g c =
    rw (vector_made c.args.self c.args.other _ _ c.sub-apart.result _ _ c.self.view_is c.other.view_is
    c.sub-apart.ensures)
    (centers_apart g.I.IntNumber.unit c.args.self c.args.other c.requires.own c.requires.other)

pub overflow_mul-result : goal.overflow_mul-result
overflow_mul-result g c =
    let r : SFits w128 c.difference.result = search rules in
    let d = simp (to_z-of_z w128 c.difference.result r) at c.unsigned_abs-difference.ensures.value in
    let s : c.unsigned_abs-difference.result ≤ 2 ^ 32 = omega (arith, d, c.difference.ensures.size) in
    omega (arith, mul-le-mul s s)

pub returns : goal.returns
returns g c =
    let r : SFits w128 c.difference.result = search rules in
    let d = simp (to_z-of_z w128 c.difference.result r) at c.unsigned_abs-difference.ensures.value in
    nested_made c.args.self c.args.other _ _ c.sub-apart.result _ _ _ _ c.self.view_is c.other.view_is
    c.sub-apart.ensures
    (c.uint_to_u128.ensures.value ∙ c.sqr_length.ensures) (d ∙ ap unsigned_abs c.difference.ensures.value)
