-- The sine is not small, so that the reach fits.
use Rattle.std.proofs.Common.{◌∙◌, ap, arith, rules, sym, subst}
use Rattle.std.specs.Prelude.{ℤ}
use Rattle.std.proofs.lemmas.Int.{to_z-of_z, ints}
use mir.Syntax.{w32, w128}
use Rattle.mesh_plane.specs.Plane.{Point}
use Rattle.mesh_join.specs.Private.Miters.{IsHalfSine}
use Rattle.mesh_join.specs.Miters.{miter_padding, reach}
use Rattle.mesh_join.proofs.Miters.{half_sine}
use Rattle.mesh_join.proofs.miter.padding.Goals as goal

pub reach-requires : goal.reach-requires
reach-requires g c =
    let s : IsHalfSine c.half_sharpest.result.0 = subst (λ (p : Point). IsHalfSine p.0) (sym c.half_sharpest.ensures.value) (half_sine c.args.angle) in
    rw (to_z-of_z w32 c.half_sharpest.result.0 (omega (arith, ints, s.least, s.most))) s

pub returns : goal.returns
unfolding miter_padding
returns g c =
    let s : IsHalfSine c.half_sharpest.result.0 = subst (λ (p : Point). IsHalfSine p.0) (sym c.half_sharpest.ensures.value) (half_sine c.args.angle) in
    let t = to_z-of_z w32 c.half_sharpest.result.0 (omega (arith, ints, s.least, s.most)) in
    let r = to_z-of_z w128 c.reach.result (search rules) in
    let radius = g.I.IntNumber.value c.args.radius in
    c.wide_from_i128.ensures ∙ r ∙ c.reach.ensures.value ∙ ap (λ (z : ℤ). reach z radius) (t ∙ ap (λ (p : Point). p.0) c.half_sharpest.ensures.value)
