-- By the first coordinate, then by the second.
use Rattle.std.proofs.Common.{◌∙◌, sym}
use Rattle.mesh_plane.specs.Plane.{Point}
use Rattle.mesh_plane.specs.Order.{point_lt}
use Rattle.mesh_num.proofs.Subjects.{less_is, before_by_x, after_by_x, before_by_y}
use Rattle.mesh_num.proofs.shape.segment.is_before.Goals as goal

pub returns-then-is_less : goal.returns-then-is_less
returns-then-is_less g c =
    let p : Point = (g.I.IntNumber.value c.p.inside.x, g.I.IntNumber.value c.p.inside.y) in
    let q : Point = (g.I.IntNumber.value c.q.inside.x, g.I.IntNumber.value c.q.inside.y) in
    before_by_x p q (sym (less_is _ p.0 q.0 c.is_less.ensures) ∙ c.if-is_less.true) ∙ (λ i. point_lt (c.p.view_is i) (c.q.view_is i))

pub returns-then-is_less-2 : goal.returns-then-is_less-2
returns-then-is_less-2 g c =
    let p : Point = (g.I.IntNumber.value c.p.inside.x, g.I.IntNumber.value c.p.inside.y) in
    let q : Point = (g.I.IntNumber.value c.q.inside.x, g.I.IntNumber.value c.q.inside.y) in
    after_by_x p q (sym (less_is _ p.0 q.0 c.is_less.ensures) ∙ c.if-is_less.false) (sym (less_is _ q.0 p.0 c.is_less-2.ensures) ∙ c.if-is_less-2.true) ∙ (λ i. point_lt (c.p.view_is i) (c.q.view_is i))

pub returns : goal.returns
returns g c =
    let p : Point = (g.I.IntNumber.value c.p.inside.x, g.I.IntNumber.value c.p.inside.y) in
    let q : Point = (g.I.IntNumber.value c.q.inside.x, g.I.IntNumber.value c.q.inside.y) in
    less_is _ p.1 q.1 c.is_less-3.ensures
    ∙ before_by_y p q (sym (less_is _ p.0 q.0 c.is_less.ensures) ∙ c.if-is_less.false) (sym (less_is _ q.0 p.0 c.is_less-2.ensures) ∙ c.if-is_less-2.false) ∙ (λ i. point_lt (c.p.view_is i) (c.q.view_is i))
