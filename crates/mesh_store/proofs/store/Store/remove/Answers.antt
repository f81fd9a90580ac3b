use Rattle.mesh_store.specs.Cells.{listed_at}
use Rattle.mesh_store.proofs.Listing.{listed_taken, listed_without}
use Rattle.mesh_store.proofs.store.Store.remove.Goals as goal

pub invariant_of-self : goal.invariant_of-self
invariant_of-self c =
    listed_without (listed_at c.self.inside.plane) (listed_at c.take.new.self) c.remove-s.new.self c.args.ends (c.has.ensures.no c.if-not-has.true) c.take.ensures
    (listed_taken (listed_at c.self.inside.plane) c.self.inside.live c.remove-s.new.self c.remove-s.result c.remove-s.ensures.taken c.self.invariant)
