use Rattle.std.proofs.Common.{List, subst, sym}
use Rattle.mesh_lattice.specs.Counted.{Counted}
use Rattle.mesh_store.specs.Cells.{listed_at, LiveAreListed}
use Rattle.mesh_store.proofs.Listing.{listed_kept, listed_put}
use Rattle.mesh_store.proofs.store.Store.insert.Goals as goal

pub invariant_of-self-in_err-insert : goal.invariant_of-self-in_err-insert
invariant_of-self-in_err-insert c =
    subst (λ (ks : List Counted). LiveAreListed (listed_at c.put.new.self) ks) (sym c.in_err-insert.ensures.err)
    (listed_kept (listed_at c.self.inside.plane) (listed_at c.put.new.self) c.self.inside.live c.in_ok-crowded.ensures.kept c.self.invariant)

pub invariant_of-self-then-crowded : goal.invariant_of-self-then-crowded
invariant_of-self-then-crowded c =
    listed_put (listed_at c.put.new.self) c.self.inside.live c.insert.new.self c.args.s c.in_ok-insert.ensures.ok c.in_ok-crowded.ensures.listed
    (listed_kept (listed_at c.self.inside.plane) (listed_at c.put.new.self) c.self.inside.live c.in_ok-crowded.ensures.kept c.self.invariant)

pub invariant_of-self-else-crowded : goal.invariant_of-self-else-crowded
invariant_of-self-else-crowded c =
    listed_put (listed_at c.put.new.self) c.self.inside.live c.insert.new.self c.args.s c.in_ok-insert.ensures.ok c.in_ok-crowded.ensures.listed
    (listed_kept (listed_at c.self.inside.plane) (listed_at c.put.new.self) c.self.inside.live c.in_ok-crowded.ensures.kept c.self.invariant)
