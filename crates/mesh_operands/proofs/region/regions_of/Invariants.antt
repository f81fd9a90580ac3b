use Rattle.std.proofs.Common.{map, take}
use Rattle.std.specs.List.{All}
use Rattle.mesh_lattice.specs.Reach.{ArePointsSafe}
use Rattle.mesh_boolean.specs.Zones.{zones_of}
use Rattle.mesh_operands.specs.Combining.{AreRegionsOfZones}
use Rattle.mesh_operands.specs.Operands.{operand_of}
use Rattle.mesh_operands.proofs.region.regions_of.Given as goal

-- those of the zones so far
abbrev pub invariant-loop-zone : goal.invariant-loop-zone
invariant-loop-zone g l = record {
  regions : AreRegionsOfZones g.I.IntNumber.unit l.fill (map (operand_of g.I.IntNumber.value) (take l.zone-index l.zones)) (zones_of l.regions.items);
  safe : All (ArePointsSafe g.I.IntNumber.unit) (zones_of l.regions.items);
}
