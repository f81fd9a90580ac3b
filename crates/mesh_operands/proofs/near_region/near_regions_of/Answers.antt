-- One zone after another.
use Rattle.std.proofs.Common.{◌+◌, map, Err, ap, sym, arith}
use Rattle.std.specs.List.{sum_by}
use Rattle.mesh_offset.proofs.Counting.{counts_none}
use Rattle.mesh_operands.specs.Combining.{MayTakePart}
use Rattle.mesh_operands.specs.Nearness.{IsZoneDrawing, lists_of}
use Rattle.mesh_operands.specs.Operands.{operand_of}
use Rattle.mesh_operands.proofs.Near.{counts_so_far, counts_zone, told_all, told_more, told_none}
use Rattle.mesh_operands.proofs.Zones.{one_of, safe_more}
use Rattle.mesh_operands.proofs.near_region.near_regions_of.Goals as goal

pub returns-in_err-regions-clause-counted : goal.returns-in_err-regions-clause-counted
returns-in_err-regions-clause-counted g c =
    counts_none (sum_by lists_of (map (operand_of g.I.IntNumber.value) c.args.zones.now)) (IsZoneDrawing g.I.IntNumber.unit c.args.fill (map (operand_of g.I.IntNumber.value) c.args.zones.now)) c.args.count.now (omega arith)

pub loop-zone-init : goal.loop-zone-init
loop-zone-init g c = record {
  told = rw c.in_ok-regions.ensures.items (told_none g.I.IntNumber.unit c.args.fill c.args.count.now);
  safe = rw c.in_ok-regions.ensures.items (λ k d low. absurd (omega (arith, low)));
  small = omega arith;
  counted = counts_none 0 (IsZoneDrawing g.I.IntNumber.unit c.args.fill (map (operand_of g.I.IntNumber.value) c.args.zones.now)) c.args.count.now (omega arith);
}

pub near_region_of-requires : goal.near_region_of-requires
near_region_of-requires g c =
    one_of (operand_of g.I.IntNumber.value) (MayTakePart g.I.IntNumber.unit) c.args.zones.now c.loop-zone.zone-index c.zone-item.result c.loop-zone-test.true c.zone-item.is c.requires

pub returns-in_err-own-clause-counted : goal.returns-in_err-own-clause-counted
returns-in_err-own-clause-counted g c =
    counts_so_far (operand_of g.I.IntNumber.value) g.I.IntNumber.unit c.args.fill c.args.zones.now (c.loop-zone.zone-index + 1) _ _
    (counts_zone (operand_of g.I.IntNumber.value) g.I.IntNumber.unit c.args.fill c.args.zones.now c.loop-zone.zone-index c.zone-item.result c.loop-zone-test.true c.zone-item.is _ _ _ c.loop-zone.invariant.counted
    c.near_region_of.ensures.counted)

pub returns-in_err-own-clause-past : goal.returns-in_err-own-clause-past
returns-in_err-own-clause-past g c h = let e = rw h at c.from_residual-in_err-own.ensures.1 in c.in_err-own.ensures.past (ap Err (sym e))

pub returns-in_err-add_region-clause-counted : goal.returns-in_err-add_region-clause-counted
returns-in_err-add_region-clause-counted g c =
    counts_so_far (operand_of g.I.IntNumber.value) g.I.IntNumber.unit c.args.fill c.args.zones.now (c.loop-zone.zone-index + 1) _ _
    (counts_zone (operand_of g.I.IntNumber.value) g.I.IntNumber.unit c.args.fill c.args.zones.now c.loop-zone.zone-index c.zone-item.result c.loop-zone-test.true c.zone-item.is _ _ _ c.loop-zone.invariant.counted
    c.near_region_of.ensures.counted)

pub loop-zone-preserved : goal.loop-zone-preserved
loop-zone-preserved g c = record {
  told =
      rw c.max-nearness.ensures
      (told_more (operand_of g.I.IntNumber.value) g.I.IntNumber.unit c.args.fill c.args.zones.now c.loop-zone.zone-index c.zone-item.result c.loop-zone-test.true c.zone-item.is c.loop-zone.nearness c.in_ok-own.own.nearness
      c.loop-zone.regions.items _ c.in_ok-own.own.shapes _ _ _ c.in_ok-add_region.ensures c.loop-zone.invariant.told (rw c.new.ensures at c.in_ok-own.ensures.standing));
  safe = safe_more g.I.IntNumber.unit c.loop-zone.regions.items _ _ c.in_ok-add_region.ensures c.loop-zone.invariant.safe c.in_ok-own.ensures.safe;
  small =
      (let before = c.loop-zone.invariant.small in
      let own = c.in_ok-own.ensures.small in
      let most = c.max-nearness.ensures in
      omega (arith, before, own, most));
  counted =
      counts_zone (operand_of g.I.IntNumber.value) g.I.IntNumber.unit c.args.fill c.args.zones.now c.loop-zone.zone-index c.zone-item.result c.loop-zone-test.true c.zone-item.is _ _ _ c.loop-zone.invariant.counted
      c.near_region_of.ensures.counted;
}

pub returns-clause-told : goal.returns-clause-told
returns-clause-told g c =
    told_all (operand_of g.I.IntNumber.value) c.loop-zone.nearness g.I.IntNumber.unit c.args.fill c.args.zones.now c.loop-zone.zone-index _ _ _ c.loop-zone-test.false c.loop-zone.invariant.told

pub returns-clause-counted : goal.returns-clause-counted
returns-clause-counted g c = counts_so_far (operand_of g.I.IntNumber.value) g.I.IntNumber.unit c.args.fill c.args.zones.now c.loop-zone.zone-index _ _ c.loop-zone.invariant.counted
