-- What is apart in one order is so in any.
use Rattle.mesh_outline.proofs.BoundsInOrder.{apart_in_any_order}
use Rattle.mesh_outline.proofs.bounds_apart.are_apart.Goals as goal

pub returns : goal.returns
returns g c told =
    apart_in_any_order c.args.bounds.items c.from_west-ordered.result.items c.from_west-ordered.ensures.same (rw c.deref.ensures.value at (c.are_apart_in_order.ensures told))
