-- The quotients are small enough to be added.
use Rattle.std.proofs.Common.{◌≡◌, ◌≢◌, ◌∙◌, ap, refl, sym}
use Rattle.std.specs.Prelude.{pos}
use Rattle.mesh_plane.specs.Plane.{Point, cross}
use Rattle.mesh_join.specs.Miters.{peak}
use Rattle.mesh_join.proofs.Wide.{half_read, quotient_read, quotient_small}
use Rattle.mesh_join.proofs.miter.peak.Goals as goal

pub sum-requires-clause-vector : goal.sum-requires-clause-vector
sum-requires-clause-vector g c =
    let n = c.coordinates_of-x.ensures.narrow in
    let s = c.peak_share-share.ensures.size in
    let p = c.products-product.ensures in
    let d : c.products-product.result.0 ≢ pos 0 = λ z. c.requires (sym (ap (λ (v : Point). v.0) p.value) ∙ z) in
    record {
      x = quotient_small c.rounded_product.result c.coordinates_of-x.result.0 c.peak_share-share.result
          c.products-product.result.0 c.rounded_product.ensures n.x s p.narrow.x d;
      y = quotient_small c.rounded_product-2.result c.coordinates_of-x.result.1 c.peak_share-share.result
          c.products-product.result.0 c.rounded_product-2.ensures n.y s p.narrow.x d;
    }

pub returns : goal.returns
unfolding peak
returns g c =
    let n = c.coordinates_of-x.ensures.narrow in
    let s = c.peak_share-share.ensures.size in
    let p = c.products-product.ensures in
    let is : c.products-product.result.0 ≡ cross c.args.joint.now.incoming c.args.joint.now.outgoing =
    ap (λ (v : Point). v.0) p.value in
    let d : c.products-product.result.0 ≢ pos 0 = λ z. c.requires (sym is ∙ z) in
    let x =
    quotient_read c.rounded_product.result c.coordinates_of-x.result.0 c.peak_share-share.result
    c.products-product.result.0 c.rounded_product.ensures n.x s p.narrow.x d in
    let y =
    quotient_read c.rounded_product-2.result c.coordinates_of-x.result.1 c.peak_share-share.result
    c.products-product.result.0 c.rounded_product-2.ensures n.y s p.narrow.x d in
    let share =
    rw (c.coordinates-first.ensures.value, c.coordinates.ensures.value, c.coordinates_of.ensures.value) at
    c.peak_share-share.ensures.value in
    rw (← c.joint.view_is)
    (c.sum.ensures
    ∙ rw (x, y, share, c.coordinates-first.ensures.value, c.coordinates_of-x.ensures.value, is, ← c.joint.view_is) refl)

pub rounded_product-requires-clause-divisor : goal.rounded_product-requires-clause-divisor
rounded_product-requires-clause-divisor g c =
    let p = c.products-product.ensures in
    λ z. c.requires (sym (ap (λ (v : Point). v.0) p.value) ∙ sym (half_read c.products-product.result.0 p.narrow.x) ∙ z)

pub rounded_product-requires-clause-size : goal.rounded_product-requires-clause-size
rounded_product-requires-clause-size g c =
    rw (half_read c.products-product.result.0 c.products-product.ensures.narrow.x) c.products-product.ensures.narrow.x

pub rounded_product-requires-2-clause-divisor : goal.rounded_product-requires-2-clause-divisor
rounded_product-requires-2-clause-divisor g c =
    let p = c.products-product.ensures in
    λ z. c.requires (sym (ap (λ (v : Point). v.0) p.value) ∙ sym (half_read c.products-product.result.0 p.narrow.x) ∙ z)

pub rounded_product-requires-2-clause-size : goal.rounded_product-requires-2-clause-size
rounded_product-requires-2-clause-size g c =
    rw (half_read c.products-product.result.0 c.products-product.ensures.narrow.x) c.products-product.ensures.narrow.x
