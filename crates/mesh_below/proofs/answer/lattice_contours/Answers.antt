use Rattle.std.proofs.Common.{[]}
use Rattle.mesh_below.proofs.LatticeContours.{adds_none, adds_shape, adds_shapes}
use Rattle.mesh_below.proofs.answer.lattice_contours.Goals as goal

pub loop-shape-init : goal.loop-shape-init
loop-shape-init g c = rw c.new-contours.ensures.items (adds_none [])

pub loop-shape-preserved : goal.loop-shape-preserved
loop-shape-preserved g c =
    adds_shape c.args.shapes.now c.shape-item.result c.loop-shape.shape-index _ _ _ _ c.loop-shape-test.true c.shape-item.is c.deref.ensures.value
    c.loop-shape.invariant c.in_ok-push_contours.ensures

pub returns : goal.returns
returns g c = adds_shapes c.args.shapes.now c.loop-shape.shape-index _ _ c.loop-shape-test.false c.loop-shape.invariant
