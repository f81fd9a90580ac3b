use Rattle.mesh_below.proofs.LatticeContours.{adds_none, adds_path, adds_paths}
use Rattle.mesh_below.proofs.answer.push_contours.Goals as goal

pub loop-contour-init : goal.loop-contour-init
loop-contour-init g c = adds_none c.args.contours.now.items

pub loop-contour-preserved : goal.loop-contour-preserved
loop-contour-preserved g c =
    adds_path c.args.shape.now c.contour-item.result c.loop-contour.contour-index _ _ _ _ c.loop-contour-test.true c.contour-item.is c.deref.ensures.value
    c.loop-contour.invariant c.in_ok-push_contour.ensures

pub returns : goal.returns
returns g c = adds_paths c.args.shape.now c.loop-contour.contour-index _ _ c.loop-contour-test.false c.loop-contour.invariant
