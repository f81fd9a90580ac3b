-- One shape after another.
use Rattle.mesh_num.proofs.FlatContours.{shapes_more, shapes_all}
use Rattle.mesh_num.proofs.shape.buffer.FlatContoursBuffer.from_shapes.Goals as goal

pub loop-shape-preserved : goal.loop-shape-preserved
loop-shape-preserved g c =
    let e = c.deref-shape-items.ensures.value in
    shapes_more _ _ c.shape-item.result _ (rw e at c.loop-shape-test.true) (rw e at c.shape-item.is)
    (c.in_ok-push_shape.ensures _ c.loop-shape.invariant)

pub returns : goal.returns
returns g c =
    let e = c.deref-shape-items.ensures.value in
    shapes_all _ _ _ (rw e at c.loop-shape-test.false) c.loop-shape.invariant
