-- The sine and the cosine are those of the slightest turn.
use Rattle.std.proofs.Common.{◌∙◌, ap, arith, refl, sym}
use Rattle.std.proofs.lemmas.Int.{to_z-of_z, ints}
use mir.Syntax.{w32, w128}
use Rattle.mesh_plane.specs.Plane.{Point}
use Rattle.mesh_join.proofs.Sines.{sine_fits, slight_test, slight_at_once, slight_by_angle, is_zero, not_zero}
use Rattle.mesh_join.proofs.miter.Miter.is_slight.Goals as goal

pub returns-then-cross-eq0 : goal.returns-then-cross-eq0
returns-then-cross-eq0 g c =
    let z = is_zero c.products-cross.result.0 (omega (arith, ints, c.products-cross.ensures.narrow.x)) c.if-cross-eq0.true in
    rw (z, slight_at_once c.args.self.now.min_turn c.args.joint.now c.products-cross.result.0 (ap (λ (p : Point). p.0) c.products-cross.ensures.value) z) refl

pub returns-else-cross-eq0 : goal.returns-else-cross-eq0
returns-else-cross-eq0 g c =
    let p = c.products-cross.ensures in
    let fits = sine_fits c.self.inside.slightest c.self.invariant.short_slightest in
    let sine = to_z-of_z w32 c.self.inside.slightest.0 fits.0 in
    let cosine = to_z-of_z w32 c.self.inside.slightest.1 fits.1 in
    let x = to_z-of_z w128 c.products-cross.result.0 (omega (arith, ints, p.narrow.x)) in
    let d = to_z-of_z w128 c.products-cross.result.1 (omega (arith, ints, p.narrow.y)) in
    let angle = c.self.invariant.of_slightest in
    let t = slight_test _ c.args.joint.now.incoming c.args.joint.now.outgoing _ _ _ _ c.is_angle_below.result c.is_angle_below.ensures
    (cosine ∙ ap (λ (p : Point). p.1) angle) (sine ∙ ap (λ (p : Point). p.0) angle) (x ∙ ap (λ (p : Point). p.0) p.value) (d ∙ ap (λ (p : Point). p.1) p.value) in
    rw (← c.self.view_is) (sym (slight_by_angle c.self.inside.min_turn c.args.joint.now c.products-cross.result.0 c.is_angle_below.result (ap (λ (p : Point). p.0) p.value) (not_zero c.products-cross.result.0 c.if-cross-eq0.false) t))
