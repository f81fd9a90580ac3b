use Rattle.std.proofs.Common.{◌≡◌, ◌∷◌, rules}
use Rattle.mesh_clearance.proofs.Searching.{cleared_none, cleared_more}
use Rattle.mesh_clearance.proofs.search.clearance.Goals as goal

pub loop-section-init : goal.loop-section-init
loop-section-init c =
    cleared_none c.args.edges.now c.args.sections.now c.in-Some.first.now c.in-Some-split_first.start.now c.separation-least.result c.in-Some.field-0-1.now c.in-Some-split_first.field-0-1.now (search rules) (search rules)
    c.separation-least.ensures

pub loop-section-preserved : goal.loop-section-preserved
loop-section-preserved c =
    cleared_more c.args.edges.now c.args.sections.now c.loop-section.section-index _ c.loop-section.least c.nearest-least.result c.loop-section-test.true
    (record { less = c.nearest-least.ensures.less; apart = c.nearest-least.ensures.apart; reached = c.nearest-least.ensures.reached }) c.loop-section.invariant
