use Rattle.mesh_lattice.proofs.PlacesAmong.{rising_more}
use Rattle.mesh_lattice.proofs.places.push_rising.Goals as goal

pub returns-clause-rising : goal.returns-clause-rising
returns-clause-rising c = rw c.in_ok-push.ensures.items (rising_more c.args.marks.now.items c.args.m c.requires (rw c.deref.ensures.value at (c.goes_on.ensures c.if-not-goes_on.false)))
