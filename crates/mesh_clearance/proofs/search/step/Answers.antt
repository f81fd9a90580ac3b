use Rattle.mesh_clearance.proofs.Searching.{measured}
use Rattle.mesh_clearance.proofs.search.step.Goals as goal

pub returns-then-at-end-clause-apart : goal.returns-then-at-end-clause-apart
returns-then-at-end-clause-apart c = c.passed-end.ensures c.args.edges.now c.args.section c.requires.runs c.box_of.ensures

pub returns-clause-apart : goal.returns-clause-apart
returns-clause-apart c =
    (measured c.args.least c.separation.result c.min.result c.args.at c.args.edges.now _ c.args.section c.min.ensures c.requires.within c.separation.ensures).apart

pub returns-clause-reached : goal.returns-clause-reached
returns-clause-reached c =
    (measured c.args.least c.separation.result c.min.result c.args.at c.args.edges.now _ c.args.section c.min.ensures c.requires.within c.separation.ensures).reached
