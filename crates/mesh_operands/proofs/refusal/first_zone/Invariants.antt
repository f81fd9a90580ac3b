use Rattle.std.proofs.Common.{map, take}
use Rattle.std.specs.List.{All}
use Rattle.mesh_operands.specs.Combining.{MayTakePart}
use Rattle.mesh_operands.specs.Operands.{operand_of}
use Rattle.mesh_operands.proofs.refusal.first_zone.Given as goal

-- each zone so far may take part
abbrev pub invariant-loop-index : goal.invariant-loop-index
invariant-loop-index g l = All (MayTakePart g.I.IntNumber.unit) (take l.index (map (operand_of g.I.IntNumber.value) l.zones))
