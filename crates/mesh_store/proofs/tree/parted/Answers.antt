use Rattle.std.proofs.Common.{Bool, cond}
use Rattle.mesh_store.specs.Cells.{listed_at, StandsIn}
use Rattle.mesh_store.proofs.Listing.{at_place}
use Rattle.mesh_store.proofs.tree.parted.Goals as goal

pub returns : goal.returns
returns c = λ x l p reach.
    at_place (λ (b : Bool). StandsIn x (cond b (listed_at c.in_ok-low-2.low.value p) (listed_at c.in_ok-high-2.high.value p))) c.in-Some.cut x p reach
    (λ t. rw c.in_ok-low-2.ensures.ok (c.in_ok-low.ensures x t (rw c.deref-2.ensures.value l)))
    (λ t. rw c.in_ok-high-2.ensures.ok (c.in_ok-high.ensures x t (rw c.deref-3.ensures.value l)))
