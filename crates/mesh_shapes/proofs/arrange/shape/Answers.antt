use Rattle.mesh_shapes.specs.Vectors.{shape_points}
use Rattle.mesh_shapes.proofs.Taking.{moved_more}
use Rattle.mesh_shapes.proofs.arrange.shape.Goals as goal

pub loop-i-preserved : goal.loop-i-preserved
loop-i-preserved c =
    moved_more c.args.rings.now c.loop-i.rings c.push_contour-in-loop-i.new.rings c.args.clockwise c.args.h c.args.members.now c.loop-i.i-index
    (shape_points c.loop-i.shape.items) (shape_points c.push_contour-in-loop-i.new.shape.items) c.requires.apart c.loop-i-test.true
    c.loop-i.invariant c.in_ok-push_contour-2.ensures.added c.in_ok-push_contour-2.ensures.others
