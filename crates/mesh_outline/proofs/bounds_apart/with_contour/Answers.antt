-- One point after another.
use Rattle.mesh_outline.proofs.PointBounds.{hold_none, hold_point, hold_points}
use Rattle.mesh_outline.proofs.bounds_apart.with_contour.Goals as goal

pub loop-point-init : goal.loop-point-init
loop-point-init g c = hold_none c.args.bounds

pub loop-point-preserved : goal.loop-point-preserved
loop-point-preserved g c =
    hold_point c.args.bounds c.loop-point.wider c.with_point-wider.result c.args.contour.now c.loop-point.point-index c.point-item.result c.loop-point-test.true c.point-item.is
    c.loop-point.invariant c.with_point-wider.ensures

pub returns : goal.returns
returns g c = hold_points c.args.bounds c.loop-point.wider c.args.contour.now c.loop-point.point-index c.loop-point-test.false c.loop-point.invariant
