-- The differences fit the wide type.
use Rattle.std.proofs.Common.{◌∙◌}
use Rattle.std.specs.Prelude.{◌-ℤ◌}
use Rattle.mesh_plane.specs.Plane.{minus}
use Rattle.mesh_num.proofs.Products.{coordinates_differ}
use Rattle.mesh_num.proofs.num.point.IntPointSub.sub.Goals as goal

pub minus-requires : goal.minus-requires
minus-requires g c =
    coordinates_differ _ g.I.IntNumber.unit _ _ _ _ g.met.I.IntNumber.half_law g.met.I.IntNumber.least_law
    c.to_wide.ensures.value c.to_wide-2.ensures.value c.to_wide.ensures.range c.to_wide-2.ensures.range

pub minus-requires-2 : goal.minus-requires-2
minus-requires-2 g c =
    coordinates_differ _ g.I.IntNumber.unit _ _ _ _ g.met.I.IntNumber.half_law g.met.I.IntNumber.least_law
    c.to_wide-3.ensures.value c.to_wide-4.ensures.value c.to_wide-3.ensures.range c.to_wide-4.ensures.range

pub returns : goal.returns
returns g c =
    let x = c.minus.ensures ∙ (λ i. c.to_wide.ensures.value i -ℤ c.to_wide-2.ensures.value i) in
    let y = c.minus-2.ensures ∙ (λ i. c.to_wide-3.ensures.value i -ℤ c.to_wide-4.ensures.value i) in
    (λ i. (x i, y i)) ∙ (λ i. minus (c.self.view_is i) (c.other.view_is i))
