use Rattle.std.proofs.Common.{arith}
use Rattle.mesh_shapes.specs.Contours.{StartsOnce}
use Rattle.mesh_shapes.proofs.LeftOut.{left_start, omitted_end}
use Rattle.mesh_shapes.proofs.ring.leaves_lone_points.Goals as goal

pub loop-i-init : goal.loop-i-init
loop-i-init c h = left_start (StartsOnce c.args.ordered.now) c.args.all c.args.contour.now c.requires.has_points h

pub loop-i-preserved : goal.loop-i-preserved
loop-i-preserved c h = c.loop-i.invariant (c.may_leave.ensures c.if-not-may_leave.false h)

pub returns : goal.returns
returns c t = c.loop-i.invariant (omitted_end (StartsOnce c.args.ordered.now) c.args.all c.loop-i.before c.args.contour.now c.loop-i.i _ (omega arith))
