-- The sum is a coordinate of a safe point.
use Rattle.std.proofs.Common.{◌∙◌}
use Rattle.std.specs.Prelude.{◌+ℤ◌}
use Rattle.mesh_num.proofs.Moving.{small_within}
use Rattle.mesh_circle.proofs.vertex.east_of.Goals as goal

pub from_wide-requires : goal.from_wide-requires
from_wide-requires g c =
    small_within g.I.IntNumber.unit _ _ (c.plus-x.ensures
    ∙ (λ i. c.to_wide.ensures.value i +ℤ c.to_wide-2.ensures.value i)
    ∙ (λ i. (c.center.view_is i).0 +ℤ g.I.IntNumber.value c.args.radius)) c.requires.x

pub returns : goal.returns
returns g c =
    let x = c.from_wide.ensures ∙ c.plus-x.ensures
    ∙ (λ i. c.to_wide.ensures.value i +ℤ c.to_wide-2.ensures.value i)
    ∙ (λ i. (c.center.view_is i).0 +ℤ g.I.IntNumber.value c.args.radius) in
    c.new.ensures ∙ (λ i. (x i, (c.center.view_is i).1))
