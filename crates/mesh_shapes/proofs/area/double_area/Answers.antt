use Rattle.std.proofs.Common.{rules, ◌^◌, ◌<◌, lit≤, length, arith, sym, ◌∙◌}
use Rattle.mesh_plane.specs.Plane.{cross}
use mir.Syntax.{w128}
use mir.Val.{to_z}
use Rattle.mesh_shapes.proofs.AreaSums.{closed_init, closed_added, closed_next, closed_end, some_elements, total_below, added}
use Rattle.mesh_shapes.proofs.area.double_area.Goals as goal

pub loop-i-init : goal.loop-i-init
loop-i-init c = closed_init cross (2 ^ 63) c.args.points.now (some_elements c.args.points.now (sym c.is_empty.ensures ∙ c.if-is_empty.false))

pub overflow_add-sum : goal.overflow_add-sum
overflow_add-sum c =
    let n : length c.args.points.now < 2 ^ 64 = search rules in
    let l : c.loop-i.i < 2 ^ 64 = omega (arith, c.loop-i-test.true) in
    (closed_added cross (2 ^ 63) c.args.points.now c.loop-i.i c.loop-i.before (to_z w128 c.loop-i.sum-bits) c.area_of-sum.result c.loop-i.invariant c.area_of-sum.ensures.size (lit≤ tt) l).fits

pub loop-i-preserved : goal.loop-i-preserved
loop-i-preserved c =
    let n : length c.args.points.now < 2 ^ 64 = search rules in
    let l : c.loop-i.i < 2 ^ 64 = omega (arith, c.loop-i-test.true) in
    let a = closed_added cross (2 ^ 63) c.args.points.now c.loop-i.i c.loop-i.before (to_z w128 c.loop-i.sum-bits) c.area_of-sum.result c.loop-i.invariant c.area_of-sum.ensures.size (lit≤ tt) l in
    closed_next cross (2 ^ 63) c.args.points.now c.loop-i.i c.loop-i.before (to_z w128 c.loop-i.sum-bits) c.area_of-sum.result c.loop-i.invariant a c.loop-i-test.true
    c.area_of-sum.ensures.value

pub overflow_add-result : goal.overflow_add-result
overflow_add-result c =
    let n : length c.args.points.now < 2 ^ 64 = search rules in
    let some = some_elements c.args.points.now (sym c.is_empty.ensures ∙ c.if-is_empty.false) in
    let l : c.loop-i.i < 2 ^ 64 = omega (arith, c.loop-i.auto.i-end some) in
    (closed_added cross (2 ^ 63) c.args.points.now c.loop-i.i c.loop-i.before (to_z w128 c.loop-i.sum-bits) c.area_of.result c.loop-i.invariant c.area_of.ensures.size (lit≤ tt) l).fits

pub returns-clause-value : goal.returns-clause-value
returns-clause-value c =
    let n : length c.args.points.now < 2 ^ 64 = search rules in
    let some = some_elements c.args.points.now (sym c.is_empty.ensures ∙ c.if-is_empty.false) in
    let l : c.loop-i.i < 2 ^ 64 = omega (arith, c.loop-i.auto.i-end some) in
    let a = closed_added cross (2 ^ 63) c.args.points.now c.loop-i.i c.loop-i.before (to_z w128 c.loop-i.sum-bits) c.area_of.result c.loop-i.invariant c.area_of.ensures.size (lit≤ tt) l in
    closed_end cross (2 ^ 63) c.args.points.now c.loop-i.i c.loop-i.before (to_z w128 c.loop-i.sum-bits) c.area_of.result c.loop-i.invariant a c.loop-i-test.false
    c.area_of.ensures.value

pub returns-clause-size : goal.returns-clause-size
returns-clause-size c =
    let n : length c.args.points.now < 2 ^ 64 = search rules in
    let some = some_elements c.args.points.now (sym c.is_empty.ensures ∙ c.if-is_empty.false) in
    let l : c.loop-i.i < 2 ^ 64 = omega (arith, c.loop-i.auto.i-end some) in
    let a = closed_added cross (2 ^ 63) c.args.points.now c.loop-i.i c.loop-i.before (to_z w128 c.loop-i.sum-bits) c.area_of.result c.loop-i.invariant c.area_of.ensures.size (lit≤ tt) l in
    total_below (2 ^ 63) c.loop-i.i (added (to_z w128 c.loop-i.sum-bits) c.area_of.result) a.size (lit≤ tt) l
