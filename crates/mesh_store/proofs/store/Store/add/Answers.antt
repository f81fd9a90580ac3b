use Rattle.mesh_store.specs.Cells.{listed_at}
use Rattle.mesh_store.proofs.Listing.{listed_added}
use Rattle.mesh_store.proofs.store.Store.add.Goals as goal

pub invariant_of-self-2 : goal.invariant_of-self-2
invariant_of-self-2 c = listed_added (listed_at c.self.inside.plane) c.self.inside.live c.add.new.self c.args.s c.in_ok-added.added c.in_ok-added.ensures.ok c.self.invariant
