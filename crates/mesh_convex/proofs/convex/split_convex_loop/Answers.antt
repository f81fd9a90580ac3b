use Rattle.std.proofs.Common.{◌∙◌, ap, take_all}
use Rattle.mesh_convex.specs.Convex.{once_each}
use Rattle.mesh_convex.proofs.Counts.{counted_as, segments_more, sizes_more, told_as}
use Rattle.mesh_convex.proofs.convex.split_convex_loop.Goals as goal

pub loop-e-preserved : goal.loop-e-preserved
loop-e-preserved c = record {
  value = segments_more c.args.edges.now c.loop-e.segments.items c.push.new.self.items c.loop-e.e-index c.loop-e-test.true c.in_ok-push.ensures.items c.loop-e.invariant.value;
  room = sizes_more c.loop-e.segments.items c.push.new.self.items _ c.loop-e.e-index c.in_ok-push.ensures.items c.loop-e.invariant.room;
}

pub returns-clause-count : goal.returns-clause-count
returns-clause-count c =
    counted_as c.args.edges.now c.loop-e.segments.items c.requires.convex
    (c.loop-e.invariant.value ∙ ap once_each (take_all c.loop-e.e-index c.args.edges.now c.loop-e-test.false))

pub returns-clause-splitting : goal.returns-clause-splitting
returns-clause-splitting c =
    told_as c.args.edges.now c.loop-e.segments.items c.requires.convex c.requires.proper
    (c.loop-e.invariant.value ∙ ap once_each (take_all c.loop-e.e-index c.args.edges.now c.loop-e-test.false))
