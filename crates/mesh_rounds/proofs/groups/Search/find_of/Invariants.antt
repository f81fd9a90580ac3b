use Rattle.std.proofs.Common.{take, [], ◌∷◌}
use Rattle.mesh_rounds.specs.Private.Groups.{Searches}
use Rattle.mesh_rounds.proofs.groups.Search.find_of.Given as goal

abbrev pub invariant-loop-y : goal.invariant-loop-y
invariant-loop-y l = Searches (l.x ∷ []) (take l.y-index l.ys) l.fn.self l.self
