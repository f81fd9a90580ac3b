use Rattle.std.proofs.Common.{◌^◌, ◌≤◌, map, take}
use Rattle.std.specs.List.{All, sum_by}
use Rattle.mesh_lattice.specs.Reach.{ArePointsSafe}
use Rattle.mesh_offset.specs.Counting.{CountsAttempts}
use Rattle.mesh_boolean.specs.Zones.{zones_of}
use Rattle.mesh_operands.specs.Nearness.{IsZoneDrawing, lists_of}
use Rattle.mesh_operands.specs.Operands.{operand_of}
use Rattle.mesh_operands.proofs.Near.{AreTold}
use Rattle.mesh_operands.proofs.near_region.near_regions_of.Given as goal

-- what is told of the zones so far, and the splits so far
abbrev pub invariant-loop-zone : goal.invariant-loop-zone
invariant-loop-zone g l = record {
  told : AreTold l.nearness g.I.IntNumber.unit l.fill (map (operand_of g.I.IntNumber.value) (take l.zone-index l.zones)) (zones_of l.regions.items) l.fn.count l.count;
  safe : All (ArePointsSafe g.I.IntNumber.unit) (zones_of l.regions.items);
  small : l.nearness ≤ 2 ^ 39;
  counted : CountsAttempts (sum_by lists_of (map (operand_of g.I.IntNumber.value) (take l.zone-index l.zones)))
      (IsZoneDrawing g.I.IntNumber.unit l.fill (map (operand_of g.I.IntNumber.value) l.zones)) l.fn.count l.count;
}
