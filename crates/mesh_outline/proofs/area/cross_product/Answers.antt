-- Products of coordinates are far below what 128 bits hold.
use Rattle.std.proofs.Common.{sym, refl}
use Rattle.std.proofs.lemmas.Int.{to_z-of_z}
use mir.Syntax.{w128}
use Rattle.mesh_outline.proofs.Areas.{product_kept, cross_fits, cross_size}
use Rattle.mesh_outline.proofs.area.cross_product.Goals as goal

pub overflow_sub-result : goal.overflow_sub-result
overflow_sub-result g c =
    let e = product_kept c.widen.result c.widen-2.result c.widen.ensures.small c.widen-2.ensures.small in
    let f = product_kept c.widen-3.result c.widen-4.result c.widen-3.ensures.small c.widen-4.ensures.small in
    rw (e, f) (cross_fits c.widen.result c.widen-2.result c.widen-3.result c.widen-4.result c.widen.ensures.small c.widen-2.ensures.small c.widen-3.ensures.small c.widen-4.ensures.small)

pub returns-clause-value : goal.returns-clause-value
returns-clause-value g c =
    let e = product_kept c.widen.result c.widen-2.result c.widen.ensures.small c.widen-2.ensures.small in
    let f = product_kept c.widen-3.result c.widen-4.result c.widen-3.ensures.small c.widen-4.ensures.small in
    let k = to_z-of_z w128 _ (cross_fits c.widen.result c.widen-2.result c.widen-3.result c.widen-4.result c.widen.ensures.small c.widen-2.ensures.small c.widen-3.ensures.small c.widen-4.ensures.small) in
    rw (e, f, k, c.widen.ensures.value, c.widen-2.ensures.value, c.widen-3.ensures.value, c.widen-4.ensures.value, sym c.p.view_is, sym c.q.view_is) refl

pub returns-clause-size : goal.returns-clause-size
returns-clause-size g c =
    let e = product_kept c.widen.result c.widen-2.result c.widen.ensures.small c.widen-2.ensures.small in
    let f = product_kept c.widen-3.result c.widen-4.result c.widen-3.ensures.small c.widen-4.ensures.small in
    let k = to_z-of_z w128 _ (cross_fits c.widen.result c.widen-2.result c.widen-3.result c.widen-4.result c.widen.ensures.small c.widen-2.ensures.small c.widen-3.ensures.small c.widen-4.ensures.small) in
    rw (e, f, k) (cross_size c.widen.result c.widen-2.result c.widen-3.result c.widen-4.result c.widen.ensures.small c.widen-2.ensures.small c.widen-3.ensures.small c.widen-4.ensures.small)
