use Rattle.mesh_rounds.proofs.Rounding.{keeps_noted}
use Rattle.mesh_rounds.proofs.rounds.noted.Goals as goal

pub loop-pair-preserved : goal.loop-pair-preserved
loop-pair-preserved c =
    rw (c.in_ok-push-2.ensures.items, c.in_ok-push.ensures.items) (keeps_noted c.args.pairs.now c.loop-pair.pair-index _ c.loop-pair.noted.items c.loop-pair-test.true c.loop-pair.invariant)
