-- The products and their difference fit the wide type.
use Rattle.std.proofs.Common.{◌∙◌}
use Rattle.std.specs.Prelude.{◌-ℤ◌}
use Rattle.mesh_plane.specs.Plane.{cross}
use Rattle.mesh_num.proofs.Products.{product_within, difference_within}
use Rattle.mesh_num.proofs.num.point.IntVector.cross_product.Goals as goal

pub times-requires : goal.times-requires
times-requires g c =
    let s = rw (← c.self.view_is) at c.requires.own in
    let o = rw (← c.other.view_is) at c.requires.other in
    product_within _ g.I.IntNumber.unit _ _ g.met.I.IntNumber.half_law s.x o.y

pub times-requires-2 : goal.times-requires-2
times-requires-2 g c =
    let s = rw (← c.self.view_is) at c.requires.own in
    let o = rw (← c.other.view_is) at c.requires.other in
    product_within _ g.I.IntNumber.unit _ _ g.met.I.IntNumber.half_law s.y o.x

pub minus-requires : goal.minus-requires
minus-requires g c =
    let s = rw (← c.self.view_is) at c.requires.own in
    let o = rw (← c.other.view_is) at c.requires.other in
    let p = c.times.ensures in
    let q = c.times-2.ensures in
    difference_within _ g.I.IntNumber.unit _ _ _ _ _ _ g.met.I.IntNumber.half_law p q s.x o.y s.y o.x

pub returns : goal.returns
returns g c =
    let p = c.times.ensures in
    let q = c.times-2.ensures in
    c.minus.ensures ∙ (λ i. p i -ℤ q i) ∙ (λ i. cross (c.self.view_is i) (c.other.view_is i))
