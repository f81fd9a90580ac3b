-- The sections run on by the reach of the definition.
use Rattle.std.proofs.Common.{refl, rules}
use Rattle.std.proofs.lemmas.Int.{to_z-of_z}
use mir.Syntax.{w32, w128}
use Rattle.mesh_join.specs.Miters.{clip_points, clip_reach}
use Rattle.mesh_join.proofs.Sines.{sine_fits, half_is_sine}
use Rattle.mesh_join.proofs.miter.Miter.clip_points.Goals as goal

pub clip_reach-reach-requires : goal.clip_reach-reach-requires
clip_reach-reach-requires g c =
    let fits = sine_fits c.self.inside.half c.self.invariant.short_half in
    rw (to_z-of_z w32 c.self.inside.half.0 fits.0) (half_is_sine c.self.inside.angle c.self.inside.half c.self.invariant.of_half)

pub returns : goal.returns
unfolding clip_points clip_reach
returns g c =
    let fits = sine_fits c.self.inside.half c.self.invariant.short_half in
    let half = c.self.invariant.of_half in
    let sine = to_z-of_z w32 c.self.inside.half.0 fits.0 in
    let cosine = to_z-of_z w32 c.self.inside.half.1 fits.1 in
    let r = rw (sine, cosine, half) at c.clip_reach-reach.ensures.value in
    let reach = to_z-of_z w128 c.clip_reach-reach.result (search rules) in
    rw (← c.self.view_is, ← c.joint.view_is, c.sum.ensures, c.difference.ensures, c.coordinates.ensures.value, c.coordinates-2.ensures.value, c.scaled.ensures.value, c.scaled-2.ensures.value, reach, r) refl
