use Rattle.std.proofs.Common.{◌≡◌, take, map}
use Rattle.mesh_arrays.proofs.lists.items.Given as goal

-- the items of the numbers so far
abbrev pub invariant-loop-numbers : goal.invariant-loop-numbers
invariant-loop-numbers g l = l.items.items ≡ map g.T.Flat.item_of (take l.numbers-index l.flat)
