use Rattle.std.proofs.Common.{take}
use Rattle.mesh_rounds.specs.Private.Groups.{Searches}
use Rattle.mesh_rounds.proofs.groups.Search.find_near.Given as goal

abbrev pub invariant-loop-x : goal.invariant-loop-x
invariant-loop-x l = Searches (take l.x-index l.xs) l.ys l.fn.self l.self
