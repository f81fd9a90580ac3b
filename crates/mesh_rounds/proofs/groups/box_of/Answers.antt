use Rattle.mesh_rounds.proofs.Pairs.{within_more}
use Rattle.mesh_rounds.proofs.groups.box_of.Goals as goal

pub loop-e-preserved : goal.loop-e-preserved
loop-e-preserved c =
    within_more c.loop-e.bounds c.union-bounds.result c.args.edges.now c.loop-e.e-index _ c.loop-e-test.true c.union-bounds.ensures.first (c.union-bounds.ensures.second _ c.bounding_box.ensures) c.loop-e.invariant
