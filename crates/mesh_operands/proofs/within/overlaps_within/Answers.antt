-- Zones are resolved alone, by default options, then in pairs.
use Rattle.std.proofs.Common.{◌*◌, map, length, refl}
use Rattle.std.specs.List.{sum_by}
use Rattle.mesh_boolean.specs.Overlaps.{IsPairDrawing}
use Rattle.mesh_operands.specs.Nearness.{lists_of}
use Rattle.mesh_operands.specs.Operands.{operand_of}
use Rattle.mesh_operands.proofs.Near.{counts_all, counts_zones, pair_counts}
use Rattle.mesh_operands.proofs.Zones.{zones_each}
use Rattle.mesh_operands.proofs.within.overlaps_within.Goals as goal

pub near_regions_of-requires : goal.near_regions_of-requires
near_regions_of-requires g c = rw c.deref.ensures.value c.requires

pub overlaps_with_nearness-requires : goal.overlaps_with_nearness-requires
overlaps_with_nearness-requires g c = rw c.deref-2.ensures.value (zones_each g.I.IntNumber.unit c.in_ok-given.given.regions.items c.in_ok-given.ensures.safe)

pub returns-in_err-given-clause-counted : goal.returns-in_err-given-clause-counted
returns-in_err-given-clause-counted g c =
    let counted = rw c.deref.ensures.value at c.near_regions_of.ensures.counted in
    let zones = map (operand_of g.I.IntNumber.value) c.args.asked.now.zones.items in
    counts_zones g.I.IntNumber.unit c.args.asked.now.fill zones IsPairDrawing (sum_by lists_of zones) (length zones * length zones) _ _ counted

pub returns-in_err-near-clause-counted : goal.returns-in_err-near-clause-counted
returns-in_err-near-clause-counted g c =
    let told = rw c.deref.ensures.value at c.in_ok-given.ensures.told in
    let counted = rw c.deref.ensures.value at c.near_regions_of.ensures.counted in
    let zones = map (operand_of g.I.IntNumber.value) c.args.asked.now.zones.items in
    counts_all g.I.IntNumber.unit c.args.asked.now.fill zones IsPairDrawing (sum_by lists_of zones) (length zones * length zones) told.0 _ _ _ told.2.each counted
    (pair_counts g.I.IntNumber.unit c.args.asked.now.fill zones told.0 c.in_ok-given.given.regions.items _ _ told.2.each told.1 (rw c.deref-2.ensures.value at c.overlaps_with_nearness.ensures.counted))

pub returns-clause-counted : goal.returns-clause-counted
returns-clause-counted g c =
    let told = rw c.deref.ensures.value at c.in_ok-given.ensures.told in
    let counted = rw c.deref.ensures.value at c.near_regions_of.ensures.counted in
    let zones = map (operand_of g.I.IntNumber.value) c.args.asked.now.zones.items in
    counts_all g.I.IntNumber.unit c.args.asked.now.fill zones IsPairDrawing (sum_by lists_of zones) (length zones * length zones) told.0 _ _ _ told.2.each counted
    (pair_counts g.I.IntNumber.unit c.args.asked.now.fill zones told.0 c.in_ok-given.given.regions.items _ _ told.2.each told.1 (rw c.deref-2.ensures.value at c.overlaps_with_nearness.ensures.counted))

pub returns-clause-combined : goal.returns-clause-combined
returns-clause-combined g c =
    let told = rw c.deref.ensures.value at c.in_ok-given.ensures.told in
    let zones = map (operand_of g.I.IntNumber.value) c.args.asked.now.zones.items in
    record {
      told = told.0;
      first = c.in_ok-given.given.nearness;
      last = c.in_ok-near.near.nearness;
      between = c.near_regions_of.new.count;
      added = refl;
      each = told.2;
      overlaps = rw told.1 (rw c.deref-2.ensures.value at c.in_ok-near.ensures.overlaps);
      counted = pair_counts g.I.IntNumber.unit c.args.asked.now.fill zones told.0 c.in_ok-given.given.regions.items _ _ told.2.each told.1 (rw c.deref-2.ensures.value at c.overlaps_with_nearness.ensures.counted);
    }
