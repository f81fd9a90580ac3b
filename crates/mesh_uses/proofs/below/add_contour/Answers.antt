-- One edge after another.
use Rattle.std.proofs.lemmas.Result.{on_ok_weaker}
use Rattle.mesh_uses.proofs.Contours.{closed_step, closed_end}
use Rattle.mesh_uses.proofs.below.add_contour.Goals as goal

pub loop-end-preserved : goal.loop-end-preserved
loop-end-preserved c =
    closed_step c.in-Some.first.now c.loop-end.start c.end-item.result c.in-Some.others.now c.loop-end.end-index
    c.loop-end.segments.items _ _ c.loop-end-test.true c.end-item.is c.in_ok-push_non_degenerate.ensures.ok c.loop-end.invariant

pub returns : goal.returns
returns c =
    on_ok_weaker c.push_non_degenerate-2.result
    (closed_end c.args.contour.now c.in-Some.first.now c.loop-end.start c.in-Some.others.now c.loop-end.end-index
    c.args.segments.now.items c.loop-end.segments.items _ c.in-Some.ensures.cases.0 c.loop-end-test.false c.loop-end.invariant)
    c.push_non_degenerate-2.ensures.ok
