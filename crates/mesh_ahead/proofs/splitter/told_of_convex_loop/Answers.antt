use Rattle.mesh_ahead.proofs.ConvexLoops.{loop_made}
use Rattle.mesh_ahead.proofs.splitter.told_of_convex_loop.Goals as goal

pub returns-clause-made : goal.returns-clause-made
returns-clause-made c =
    loop_made c.args.edges.now c.in_ok-segments.segments.items c.args.count.now c.count_on.new.count c.requires.convex c.requires.proper c.in_ok-segments.ensures.count c.count_on.ensures.sum
