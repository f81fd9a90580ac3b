use Rattle.std.proofs.Common.{take}
use Rattle.mesh_num.specs.Paths.{paths_of}
use Rattle.mesh_arrays.specs.Private.Adding.{AddsLists}
use Rattle.mesh_arrays.proofs.lists.FlatLists.push_lists.Given as goal

-- what was there, and then the lists so far
abbrev pub invariant-loop-list : goal.invariant-loop-list
invariant-loop-list g l = AddsLists g.T.Flat.item_of l.initial.self l.self (paths_of (take l.list-index l.lists))
