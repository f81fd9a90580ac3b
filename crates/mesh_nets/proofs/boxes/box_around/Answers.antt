use Rattle.std.proofs.Common.{take}
use Rattle.std.proofs.lemmas.List.Elements.{All-more, All-weaker}
use Rattle.mesh_clearance.specs.Boxes.{IsBoxed}
use Rattle.mesh_nets.proofs.boxes.box_around.Goals as goal

pub loop-edge-preserved : goal.loop-edge-preserved
loop-edge-preserved c =
    All-more (IsBoxed c.with_edge-around.result) c.args.edges.now c.loop-edge.edge-index _ c.loop-edge-test.true
    (All-weaker (IsBoxed c.loop-edge.around) (IsBoxed c.with_edge-around.result) c.with_edge-around.ensures.grows (take c.loop-edge.edge-index c.args.edges.now) c.loop-edge.invariant)
    c.with_edge-around.ensures.holds
