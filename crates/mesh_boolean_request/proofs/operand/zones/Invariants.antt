use Rattle.std.proofs.Common.{◌≡◌, List, ◌++◌, map, drop, option_map}
use Rattle.serde_json.specs.View.{items_view}
use Rattle.mesh_operands.specs.Operands.{Given, operand_of}
use Rattle.mesh_boolean_request.specs.Reading.{zones_of}
use Rattle.mesh_boolean_request.proofs.operand.zones.Given as goal

-- the zones so far, and what is left to read
abbrev pub invariant-loop-item : goal.invariant-loop-item
invariant-loop-item g l =
    zones_of g.I.IntNumber.unit (items_view l.items)
    ≡ option_map (λ (zs : List Given). map (operand_of g.I.IntNumber.value) l.zones.items ++ zs) (zones_of g.I.IntNumber.unit (items_view (drop l.item-index l.items)))
