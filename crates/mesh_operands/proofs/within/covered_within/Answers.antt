-- Zones are resolved alone, by default options, then together.
use Rattle.std.proofs.Common.{◌≡◌, List, map, refl}
use Rattle.std.specs.List.{sum_by}
use Rattle.mesh_plane.specs.Plane.{Edge}
use Rattle.mesh_boolean.specs.Zones.{zone_edges}
use Rattle.mesh_operands.specs.Nearness.{lists_of}
use Rattle.mesh_operands.specs.Operands.{operand_of}
use Rattle.mesh_operands.proofs.Near.{counts_all, counts_zones, told_once}
use Rattle.mesh_operands.proofs.within.covered_within.Goals as goal

pub coverage_with_nearness-requires-clause-once : goal.coverage_with_nearness-requires-clause-once
coverage_with_nearness-requires-clause-once g c =
    let told = c.in_ok-given.ensures.told in
    let once = told_once g.I.IntNumber.unit c.args.asked.now.fill _ told.0 told.2.each in
    rw c.deref-2.ensures.value (rw told.1 at once)

pub near_regions_of-requires : goal.near_regions_of-requires
near_regions_of-requires g c = rw c.deref.ensures.value c.requires

pub returns-in_err-given-clause-counted : goal.returns-in_err-given-clause-counted
returns-in_err-given-clause-counted g c =
    let counted = rw c.deref.ensures.value at c.near_regions_of.ensures.counted in
    counts_zones g.I.IntNumber.unit c.args.asked.now.fill (map (operand_of g.I.IntNumber.value) c.args.asked.now.zones.items) (λ regions (es : List Edge). es ≡ zone_edges regions)
    (sum_by lists_of (map (operand_of g.I.IntNumber.value) c.args.asked.now.zones.items)) 1 _ _ counted

pub returns-in_err-near-clause-counted : goal.returns-in_err-near-clause-counted
returns-in_err-near-clause-counted g c =
    let told = rw c.deref.ensures.value at c.in_ok-given.ensures.told in
    let counted = rw c.deref.ensures.value at c.near_regions_of.ensures.counted in
    counts_all g.I.IntNumber.unit c.args.asked.now.fill (map (operand_of g.I.IntNumber.value) c.args.asked.now.zones.items) (λ regions (es : List Edge). es ≡ zone_edges regions)
    (sum_by lists_of (map (operand_of g.I.IntNumber.value) c.args.asked.now.zones.items)) 1 told.0 _ _ _ told.2.each counted
    (rw told.1 (rw c.deref-2.ensures.value at c.coverage_with_nearness.ensures.counted))

pub returns-clause-counted : goal.returns-clause-counted
returns-clause-counted g c =
    let told = rw c.deref.ensures.value at c.in_ok-given.ensures.told in
    let counted = rw c.deref.ensures.value at c.near_regions_of.ensures.counted in
    counts_all g.I.IntNumber.unit c.args.asked.now.fill (map (operand_of g.I.IntNumber.value) c.args.asked.now.zones.items) (λ regions (es : List Edge). es ≡ zone_edges regions)
    (sum_by lists_of (map (operand_of g.I.IntNumber.value) c.args.asked.now.zones.items)) 1 told.0 _ _ _ told.2.each counted
    (rw told.1 (rw c.deref-2.ensures.value at c.coverage_with_nearness.ensures.counted))

pub returns-clause-combined : goal.returns-clause-combined
returns-clause-combined g c =
    let told = rw c.deref.ensures.value at c.in_ok-given.ensures.told in
    record {
      told = told.0;
      first = c.in_ok-given.given.nearness;
      last = c.in_ok-near.near.nearness;
      between = c.near_regions_of.new.count;
      added = refl;
      each = told.2;
      covered = rw told.1 (rw c.deref-2.ensures.value at c.in_ok-near.ensures.regions);
      counted = rw told.1 (rw c.deref-2.ensures.value at c.in_ok-near.ensures.standing);
    }
