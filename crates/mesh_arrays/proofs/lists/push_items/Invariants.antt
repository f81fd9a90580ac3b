use Rattle.std.proofs.Common.{◌≡◌, ◌++◌, take, map}
use Rattle.mesh_arrays.proofs.lists.push_items.Given as goal

-- what was there, and then the items so far
abbrev pub invariant-loop-item : goal.invariant-loop-item
invariant-loop-item g l = map g.T.Flat.item_of l.all.items ≡ map g.T.Flat.item_of l.initial.all.items ++ take l.item-index l.items
