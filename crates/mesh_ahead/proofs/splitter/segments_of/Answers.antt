use Rattle.mesh_store.proofs.Lists.{if_ok}
use Rattle.mesh_ahead.proofs.ClearPaths.{settled_as}
use Rattle.mesh_ahead.proofs.splitter.segments_of.Goals as goal

pub returns-clause-settled : goal.returns-clause-settled
returns-clause-settled c =
    if_ok c.counted_segments.result _ _
    (λ v are.
    settled_as c.args.edges.now c.args.cut.now.paths c.in_ok-pieces.pieces.list.items c.deref.result.now v.items c.requires.proper c.requires.cut.paths c.requires.clear c.requires.cut.count are
    c.deref.ensures.value (c.in_ok-pieces.ensures.reached c.args.edges.now c.requires.proper c.requires.cut.count))
    c.counted_segments.ensures.value
