use Rattle.mesh_outline.proofs.BoundsInOrder.{AreFirstApart}
use Rattle.mesh_outline.proofs.bounds_apart.are_apart_in_order.Given as goal

-- each so far is apart from all that follow it
abbrev pub invariant-loop-index : goal.invariant-loop-index
invariant-loop-index g l = AreFirstApart l.bounds l.index
