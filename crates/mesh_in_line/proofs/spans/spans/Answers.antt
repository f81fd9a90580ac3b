use Rattle.mesh_in_line.proofs.Placed.{placed_pushed}
use Rattle.mesh_in_line.proofs.spans.spans.Goals as goal

pub loop-e-preserved : goal.loop-e-preserved
loop-e-preserved c =
    placed_pushed c.args.level c.args.places.now c.args.edges.now c.loop-e.spans.items c.push.new.self.items c.loop-e.e-index c.in-Some.s c.loop-e.invariant c.in_ok-push.ensures.items c.in-Some.ensures
