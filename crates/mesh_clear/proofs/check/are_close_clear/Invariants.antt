use Rattle.std.proofs.Common.{take}
use Rattle.std.specs.List.{All}
use Rattle.mesh_clear.specs.Private.Looking.{IsClearPair}
use Rattle.mesh_clear.proofs.check.are_close_clear.Given as goal

abbrev pub invariant-loop-pair : goal.invariant-loop-pair
invariant-loop-pair l = All (IsClearPair l.paths) (take l.pair-index l.close)
