use Rattle.mesh_clearance.proofs.Searching.{nearest_none, nearest_more, nearest_all}
use Rattle.mesh_clearance.proofs.search.nearest.Goals as goal

pub loop-at-init : goal.loop-at-init
loop-at-init c = nearest_none c.args.most c.args.edges.now c.args.section

pub loop-at-preserved : goal.loop-at-preserved
loop-at-preserved c =
    nearest_more c.args.most c.loop-at.least c.step-next.result.1 c.loop-at.at c.step-next.result.0 c.args.edges.now c.args.section
    (record { less = c.step-next.ensures.less; apart = c.step-next.ensures.apart; reached = c.step-next.ensures.reached }) c.loop-at.invariant

pub returns-clause-apart : goal.returns-clause-apart
returns-clause-apart c = nearest_all c.args.most c.loop-at.least c.loop-at.at c.args.edges.now c.args.section c.loop-at-test.false c.loop-at.invariant
