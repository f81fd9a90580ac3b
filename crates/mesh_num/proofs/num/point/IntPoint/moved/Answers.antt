-- The sums of the coordinates are those of a safe point.
use Rattle.std.proofs.Common.{◌∙◌}
use Rattle.std.specs.Prelude.{◌+ℤ◌}
use Rattle.mesh_plane.specs.Plane.{plus}
use Rattle.mesh_num.proofs.Moving.{small_within}
use Rattle.mesh_num.proofs.num.point.IntPoint.moved.Goals as goal

pub from_wide-requires : goal.from_wide-requires
from_wide-requires g c =
    small_within g.I.IntNumber.unit _ _ (c.plus-x.ensures
    ∙ (λ i. c.to_wide.ensures.value i +ℤ g.I.Wide.WideNumber.value c.vector.inside.x)
    ∙ (λ i. (plus (c.self.view_is i) (c.vector.view_is i)).0)) c.requires.x

pub from_wide-requires-2 : goal.from_wide-requires-2
from_wide-requires-2 g c =
    small_within g.I.IntNumber.unit _ _ (c.plus-y.ensures
    ∙ (λ i. c.to_wide-2.ensures.value i +ℤ g.I.Wide.WideNumber.value c.vector.inside.y)
    ∙ (λ i. (plus (c.self.view_is i) (c.vector.view_is i)).1)) c.requires.y

pub returns : goal.returns
returns g c =
    let x = c.from_wide.ensures ∙ c.plus-x.ensures
    ∙ (λ i. c.to_wide.ensures.value i +ℤ g.I.Wide.WideNumber.value c.vector.inside.x)
    ∙ (λ i. (plus (c.self.view_is i) (c.vector.view_is i)).0) in
    let y = c.from_wide-2.ensures ∙ c.plus-y.ensures
    ∙ (λ i. c.to_wide-2.ensures.value i +ℤ g.I.Wide.WideNumber.value c.vector.inside.y)
    ∙ (λ i. (plus (c.self.view_is i) (c.vector.view_is i)).1) in
    c.new.ensures ∙ (λ i. (x i, y i))
