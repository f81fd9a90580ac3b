-- One zone after another.
use Rattle.mesh_operands.specs.Combining.{MayTakePart}
use Rattle.mesh_operands.specs.Operands.{operand_of}
use Rattle.mesh_operands.proofs.Zones.{one_of, regions_all, regions_more, safe_more}
use Rattle.mesh_operands.proofs.region.regions_of.Goals as goal

pub region_of-requires : goal.region_of-requires
region_of-requires g c =
    one_of (operand_of g.I.IntNumber.value) (MayTakePart g.I.IntNumber.unit) c.args.zones.now c.loop-zone.zone-index c.zone-item.result c.loop-zone-test.true c.zone-item.is c.requires

pub loop-zone-preserved : goal.loop-zone-preserved
loop-zone-preserved g c = record {
  regions =
      regions_more (operand_of g.I.IntNumber.value) g.I.IntNumber.unit c.args.fill c.args.zones.now c.loop-zone.zone-index c.zone-item.result c.loop-zone.regions.items _ _ c.loop-zone-test.true c.zone-item.is
      c.in_ok-add_region.ensures c.loop-zone.invariant.regions (rw c.new.ensures at c.in_ok-own.ensures.regions);
  safe = safe_more g.I.IntNumber.unit c.loop-zone.regions.items _ _ c.in_ok-add_region.ensures c.loop-zone.invariant.safe c.in_ok-own.ensures.safe;
}

pub returns-clause-regions : goal.returns-clause-regions
returns-clause-regions g c = regions_all (operand_of g.I.IntNumber.value) g.I.IntNumber.unit c.args.fill c.args.zones.now c.loop-zone.zone-index _ c.loop-zone-test.false c.loop-zone.invariant.regions
