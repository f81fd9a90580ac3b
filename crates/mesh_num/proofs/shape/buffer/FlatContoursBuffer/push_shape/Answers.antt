-- One contour after another.
use Rattle.std.proofs.lemmas.List.{append-nil}
use Rattle.mesh_num.proofs.FlatContours.{shape_more, shape_all}
use Rattle.mesh_num.proofs.shape.buffer.FlatContoursBuffer.push_shape.Goals as goal

pub loop-contour-init : goal.loop-contour-init
loop-contour-init g c cs h = rw (append-nil cs) h

pub loop-contour-preserved : goal.loop-contour-preserved
loop-contour-preserved g c cs h =
    let e = c.deref-contour-items.ensures.value in
    shape_more _ cs _ c.contour-item.result _ (rw e at c.loop-contour-test.true) (rw e at c.contour-item.is)
    (c.in_ok-push.ensures _ (c.loop-contour.invariant cs h))

pub returns : goal.returns
returns g c cs h =
    let e = c.deref-contour-items.ensures.value in
    shape_all _ cs _ _ (rw e at c.loop-contour-test.false) (c.loop-contour.invariant cs h)
