use Rattle.mesh_shapes.proofs.Tracing.{takes_one}
use Rattle.mesh_shapes.proofs.trace.add_contour.Goals as goal

pub returns : goal.returns
returns c =
    takes_one c.args.edges.now c.args.used.now c.trace.new.used c.args.contours.now.items c.push.new.self.items c.in_ok-contour.contour c.args.first c.requires.balanced
    c.in_ok-contour.ensures.closed c.trace.ensures.kept c.in_ok-contour.ensures.marked c.in_ok-contour.ensures.has_points c.in_ok-push.ensures.items
