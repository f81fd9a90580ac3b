use Rattle.std.proofs.Common.{map, take}
use Rattle.std.specs.List.{All}
use Rattle.mesh_operands.specs.Combining.{MayTakePart}
use Rattle.mesh_operands.specs.Operands.{operand_of}
use Rattle.mesh_operands.proofs.region.may_all_take_part.Given as goal

-- each zone so far may take part
abbrev pub invariant-loop-zone : goal.invariant-loop-zone
invariant-loop-zone g l = All (MayTakePart g.I.IntNumber.unit) (map (operand_of g.I.IntNumber.value) (take l.zone-index l.zones))
