-- One shape after another.
use Rattle.mesh_outline.proofs.PointBounds.{hold_no_shape, hold_shape, answer_lies}
use Rattle.mesh_outline.proofs.bounds_apart.bounds_of_shapes.Goals as goal

pub loop-shape-init : goal.loop-shape-init
loop-shape-init g c = hold_no_shape c.no_bounds-bounds.result

pub loop-shape-preserved : goal.loop-shape-preserved
loop-shape-preserved g c =
    hold_shape c.loop-shape.bounds c.with_shape-bounds.result c.args.shapes.now c.loop-shape.shape-index c.shape-item.result c.loop-shape-test.true c.shape-item.is
    c.loop-shape.invariant (rw c.deref.ensures.value at c.with_shape-bounds.ensures)

pub returns : goal.returns
returns g c = answer_lies c.loop-shape.bounds c.args.shapes.now c.loop-shape.shape-index c.loop-shape-test.false c.loop-shape.invariant
