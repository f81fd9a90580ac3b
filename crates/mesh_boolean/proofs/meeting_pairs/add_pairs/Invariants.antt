use Rattle.std.proofs.Common.{◌≡◌, take}
use Rattle.mesh_boolean.specs.Private.Meeting.{FindsPairs}
use Rattle.mesh_boolean.proofs.meeting_pairs.add_pairs.Given as goal

-- the bounds are those given, and the pairs with the boxes so far are found
abbrev pub invariant-loop-other : goal.invariant-loop-other
invariant-loop-other g l = record {
  same : l.bounds ≡ l.fn.bounds;
  finds : FindsPairs (l.fn.place, l.fn.bounds) (take l.other-index l.following) l.initial.pairs.items l.pairs.items;
}
