-- One edge after another.
use Rattle.mesh_offset.proofs.Adding.{on_ok_then}
use Rattle.mesh_offset.proofs.Adding.{closed_step, closed_end}
use Rattle.mesh_offset.proofs.segments.add_closed.Goals as goal

pub loop-point-preserved : goal.loop-point-preserved
loop-point-preserved g c =
    closed_step c.args.fill c.in-Some.first.now c.loop-point.previous c.point-item.result c.in-Some.rest.now c.loop-point.point-index
    c.loop-point.segments.items c.add_edge.new.segments.items _ c.loop-point-test.true c.point-item.is c.in_ok-add_edge.ensures c.loop-point.invariant

pub returns : goal.returns
returns g c =
    on_ok_then c.add_edge-2.result c.add_edge-2.ensures
    (closed_end c.args.fill c.args.contour.now c.in-Some.first.now c.loop-point.previous c.in-Some.rest.now c.loop-point.point-index
    c.args.segments.now.items c.loop-point.segments.items _ c.in-Some.ensures.cases.0 c.loop-point-test.false c.loop-point.invariant)
