use Rattle.mesh_in_line.proofs.Placed.{rising_pushed}
use Rattle.mesh_in_line.proofs.places.push_rising.Goals as goal

pub returns-clause-rising : goal.returns-clause-rising
returns-clause-rising c = rw c.in_ok-push.ensures.items (rising_pushed c.args.places.now.items c.args.p c.requires (rw c.deref.ensures.value at (c.goes_on.ensures c.if-not-goes_on.false)))
