use Rattle.std.proofs.Common.{arith}
use Rattle.mesh_shapes.proofs.Tracing.{taken_init, taken_more, taken_all}
use Rattle.mesh_shapes.proofs.trace.contours_of.Goals as goal

pub loop-first-init : goal.loop-first-init
loop-first-init c = taken_init c.args.edges.now c.args.used.now c.new-contours.result.items c.requires.balanced c.new-contours.ensures.items

pub add_contour-requires-clause-balanced : goal.add_contour-requires-clause-balanced
add_contour-requires-clause-balanced c = c.loop-first.invariant.balanced

pub loop-first-preserved : goal.loop-first-preserved
loop-first-preserved c =
    taken_more c.args.edges.now c.args.used.now c.loop-first.used c.add_contour.new.used c.loop-first.contours.items c.add_contour.new.contours.items c.loop-first.first
    c.loop-first.invariant c.in_ok-add_contour.ensures

pub returns-clause-edges : goal.returns-clause-edges
returns-clause-edges c =
    taken_all c.args.edges.now c.args.used.now c.loop-first.used c.loop-first.contours.items c.loop-first.first c.loop-first.invariant c.loop-first-test.false
    (omega (arith, c.loop-first.auto.used, c.requires.marks))

pub returns-clause-have_points : goal.returns-clause-have_points
returns-clause-have_points c = c.loop-first.invariant.have_points
