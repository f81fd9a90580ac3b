-- The quotient by a sine that is not small fits the wide type.
use Rattle.std.proofs.Common.{◌≡◌, ◌≤◌, ◌*◌, arith, rules, sym, subst}
use Rattle.std.specs.Prelude.{ℤ, pos, ◌+ℤ◌, unsigned_abs}
use Rattle.std.proofs.lemmas.Int.{ints}
use mir.Syntax.{w128}
use mir.Val.{to_z, of_z}
use Rattle.mesh_plane.specs.Bounds.{IsWithin}
use Rattle.mesh_join.specs.Miters.{reach}
use Rattle.mesh_join.proofs.Miters.{reach_fits}
use Rattle.mesh_join.proofs.miter.reach.Goals as goal

pub returns-clause-fits : goal.returns-clause-fits
returns-clause-fits g c =
    let v : to_z w128 (of_z w128 (to_z w128 (of_z w128 c.rounded_product.result) +ℤ pos 2)) ≡ reach c.args.sine (g.I.IntNumber.value c.args.radius) = search rules in
    let r : unsigned_abs (g.I.IntNumber.value c.args.radius) ≤ 2 * g.I.IntNumber.unit = omega (arith, ints, c.widen.ensures.range.low, c.widen.ensures.range.high) in
    subst (λ (z : ℤ). IsWithin g.I.Wide.WideNumber.half z) (sym v)
    (reach_fits g.I.Wide.WideNumber.half g.I.IntNumber.unit c.args.sine (g.I.IntNumber.value c.args.radius) g.met.I.IntNumber.half_law g.met.I.IntNumber.least_law c.requires r)
