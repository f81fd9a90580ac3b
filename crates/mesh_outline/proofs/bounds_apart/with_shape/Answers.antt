-- One contour after another.
use Rattle.mesh_outline.proofs.PointBounds.{hold_none, hold_contour, hold_contours}
use Rattle.mesh_outline.proofs.bounds_apart.with_shape.Goals as goal

pub loop-contour-init : goal.loop-contour-init
loop-contour-init g c = hold_none c.args.bounds

pub loop-contour-preserved : goal.loop-contour-preserved
loop-contour-preserved g c =
    hold_contour c.args.bounds c.loop-contour.wider c.with_contour-wider.result c.args.shape.now c.loop-contour.contour-index c.contour-item.result c.loop-contour-test.true c.contour-item.is
    c.loop-contour.invariant (rw c.deref.ensures.value at c.with_contour-wider.ensures)

pub returns : goal.returns
returns g c = hold_contours c.args.bounds c.loop-contour.wider c.args.shape.now c.loop-contour.contour-index c.loop-contour-test.false c.loop-contour.invariant
