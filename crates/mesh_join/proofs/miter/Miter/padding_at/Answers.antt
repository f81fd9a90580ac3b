-- The sine is that of half the sharpest angle.
use Rattle.std.proofs.Common.{◌∙◌, refl, rules}
use Rattle.std.proofs.lemmas.Int.{to_z-of_z}
use mir.Syntax.{w32, w128}
use Rattle.mesh_join.specs.Miters.{miter_padding}
use Rattle.mesh_join.proofs.Sines.{sine_fits, half_is_sine}
use Rattle.mesh_join.proofs.miter.Miter.padding_at.Goals as goal

pub reach-requires : goal.reach-requires
reach-requires g c =
    let fits = sine_fits c.self.inside.half c.self.invariant.short_half in
    rw (to_z-of_z w32 c.self.inside.half.0 fits.0) (half_is_sine c.self.inside.angle c.self.inside.half c.self.invariant.of_half)

pub returns : goal.returns
unfolding miter_padding
returns g c =
    let fits = sine_fits c.self.inside.half c.self.invariant.short_half in
    let s = to_z-of_z w32 c.self.inside.half.0 fits.0 in
    let r = to_z-of_z w128 c.reach.result (search rules) in
    rw (← c.self.view_is, ← c.joint.view_is) (r ∙ c.reach.ensures.value ∙ rw (s, c.self.invariant.of_half) refl)
