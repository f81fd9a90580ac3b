use Rattle.mesh_boolean.specs.Private.Meeting.{AreFound}
use Rattle.mesh_boolean.proofs.meeting_pairs.all_pairs.Given as goal

-- the pairs of the boxes so far
abbrev pub invariant-loop-index : goal.invariant-loop-index
invariant-loop-index g l = AreFound l.boxes l.index l.pairs.items
