use Rattle.std.proofs.Common.{◌^◌, ◌*◌, ◌+◌, ◌<◌, ◌≤◌, length, sym, arith, rules}
use Rattle.std.specs.Prelude.{◌+ℤ◌, unsigned_abs}
use mir.Syntax.{w128}
use mir.Val.{to_z}
use Rattle.mesh_outline.proofs.Areas.{sum_kept, area_step, area_end}
use Rattle.mesh_outline.proofs.area.double_area.Goals as goal
use Rattle.mesh_plane.proofs.Sizes.{sum_size}

pub loop-point-preserved : goal.loop-point-preserved
loop-point-preserved g c =
    let i = c.loop-point.point-index in
    let n : length c.in-Some.rest.now < 2 ^ 64 = search rules in
    let m : i * 2 ^ 63 + 2 ^ 63 < 2 ^ 127 = omega (arith, c.loop-point-test.true) in
    let x = to_z w128 c.loop-point.area-bits in
    let y = c.cross_product-area.result in
    let p : unsigned_abs (x +ℤ y) ≤ i * 2 ^ 63 + 2 ^ 63 = sum_size x y (i * 2 ^ 63) (2 ^ 63) c.loop-point.invariant.size c.cross_product-area.ensures.size in
    let k = sum_kept x y (i * 2 ^ 63) (2 ^ 63) c.loop-point.invariant.size c.cross_product-area.ensures.size m in
    record {
      sum = rw k (area_step _ _ _ _ i _ _ _ c.loop-point-test.true c.loop-point.invariant.sum c.point-item.is c.cross_product-area.ensures.value);
      size = rw k (omega arith);
    }

pub returns : goal.returns
returns g c =
    let i = c.loop-point.point-index in
    let n : length c.args.points.now < 2 ^ 64 = search rules in
    let m : i * 2 ^ 63 + 2 ^ 63 < 2 ^ 127 = omega (arith, c.loop-point.auto.point-index-end, c.in-Some.ensures.cases.1) in
    let x = to_z w128 c.loop-point.area-bits in
    let y = c.cross_product.result in
    let k = sum_kept x y (i * 2 ^ 63) (2 ^ 63) c.loop-point.invariant.size c.cross_product.ensures.size m in
    let e = area_end _ _ _ i _ _ _ c.loop-point-test.false c.loop-point.invariant.sum c.cross_product.ensures.value in
    rw (k, c.in-Some.ensures.cases.0) (sym e)
