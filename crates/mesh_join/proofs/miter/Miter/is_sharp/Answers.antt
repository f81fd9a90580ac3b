-- The sine and the cosine are those of the sharpest angle.
use Rattle.std.proofs.Common.{◌≡◌, ◌∙◌, ap, arith, sym}
use Rattle.std.specs.Prelude.{pos, neg_ℤ, ◌-ℤ◌}
use Rattle.std.proofs.lemmas.Int.{to_z-of_z, ints}
use mir.Syntax.{w32, w128}
use Rattle.mesh_plane.specs.Plane.{Point}
use Rattle.mesh_join.proofs.Sines.{sine_fits, sharp_test, sharp_by_angle}
use Rattle.mesh_join.proofs.miter.Miter.is_sharp.Goals as goal

pub returns : goal.returns
returns g c =
    let p = c.products-cross.ensures in
    let fits = sine_fits c.self.inside.sharpest c.self.invariant.short_sharpest in
    let sine = to_z-of_z w32 c.self.inside.sharpest.0 fits.0 in
    let cosine = to_z-of_z w32 c.self.inside.sharpest.1 fits.1 in
    let x = to_z-of_z w128 c.products-cross.result.0 (omega (arith, ints, p.narrow.x)) in
    let d = to_z-of_z w128 c.products-cross.result.1 (omega (arith, ints, p.narrow.y)) in
    let turned : (pos 0 -ℤ c.products-cross.result.1) ≡ neg_ℤ c.products-cross.result.1 = omega (arith, ints) in
    let n = to_z-of_z w128 (neg_ℤ c.products-cross.result.1) (omega (arith, ints, p.narrow.y)) in
    let e = rw (d, turned, n) at c.is_angle_below.ensures in
    let angle = c.self.invariant.of_sharpest in
    let t = sharp_test _ c.args.joint.now.incoming c.args.joint.now.outgoing _ _ _ _ c.is_angle_below.result e
    (cosine ∙ ap (λ (p : Point). p.1) angle) (sine ∙ ap (λ (p : Point). p.0) angle) (x ∙ ap (λ (p : Point). p.0) p.value) (ap (λ (p : Point). neg_ℤ p.1) p.value) in
    rw (← c.self.view_is) (sym (sharp_by_angle c.self.inside.angle c.args.joint.now c.is_angle_below.result t))
