use Rattle.mesh_rounds.proofs.Rounding.{keeps_placed}
use Rattle.mesh_rounds.proofs.rounds.placed.Goals as goal

pub loop-e-preserved : goal.loop-e-preserved
loop-e-preserved c = rw c.in_ok-push.ensures.items (keeps_placed c.args.edges.now c.loop-e.e-index _ c.loop-e.placed.items c.place.result c.loop-e-test.true c.loop-e.invariant)
