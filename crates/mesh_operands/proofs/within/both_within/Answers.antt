-- Both operands are resolved alone, by default options, then together.
use Rattle.std.proofs.Common.{refl, ap, ◌+◌}
use Rattle.mesh_num.specs.Paths.{shapes_of}
use Rattle.mesh_below.specs.Options.{plain}
use Rattle.mesh_operands.specs.Nearness.{ToldRegion}
use Rattle.mesh_operands.specs.Operands.{operand_of}
use Rattle.mesh_operands.proofs.Near.{counted_once, counts_both, counts_subject, counts_together}
use Rattle.mesh_operands.proofs.within.both_within.Goals as goal

pub overlay_regions_with_nearness-requires-clause-subject_once : goal.overlay_regions_with_nearness-requires-clause-subject_once
overlay_regions_with_nearness-requires-clause-subject_once g c =
    counted_once c.in_ok-first.first.nearness g.I.IntNumber.unit c.args.boolean.now.fill.subject plain (operand_of g.I.IntNumber.value c.args.boolean.now.subject) (shapes_of c.in_ok-first.first.shapes.items) _ _
    (rw c.new-plain.ensures at c.in_ok-first.ensures.standing) refl refl

pub overlay_regions_with_nearness-requires-clause-clip_once : goal.overlay_regions_with_nearness-requires-clause-clip_once
overlay_regions_with_nearness-requires-clause-clip_once g c =
    counted_once c.in_ok-second.second.nearness g.I.IntNumber.unit c.args.boolean.now.fill.clip plain (operand_of g.I.IntNumber.value c.args.boolean.now.clip) (shapes_of c.in_ok-second.second.shapes.items) _ _
    (rw c.new-plain.ensures at c.in_ok-second.ensures.standing) refl refl

pub returns-in_err-first-clause-counted : goal.returns-in_err-first-clause-counted
returns-in_err-first-clause-counted g c =
    counts_subject g.I.IntNumber.unit c.args.boolean.now.rule c.args.boolean.now.fill (operand_of g.I.IntNumber.value c.args.boolean.now.subject) (operand_of g.I.IntNumber.value c.args.boolean.now.clip)
    _ _ c.near_region_of.ensures.counted

pub returns-in_err-second-clause-counted : goal.returns-in_err-second-clause-counted
returns-in_err-second-clause-counted g c =
    counts_both g.I.IntNumber.unit c.args.boolean.now.rule c.args.boolean.now.fill (operand_of g.I.IntNumber.value c.args.boolean.now.subject) (operand_of g.I.IntNumber.value c.args.boolean.now.clip)
    c.args.count.now c.near_region_of.new.count c.near_region_of-2.new.count c.near_region_of.ensures.counted c.near_region_of-2.ensures.counted

pub returns-in_err-near-clause-counted : goal.returns-in_err-near-clause-counted
returns-in_err-near-clause-counted g c =
    let first : ToldRegion = record { region = shapes_of c.in_ok-first.first.shapes.items; nearness = c.in_ok-first.first.nearness; before = c.args.count.now; after = c.near_region_of.new.count } in
    let second : ToldRegion = record { region = shapes_of c.in_ok-second.second.shapes.items; nearness = c.in_ok-second.second.nearness; before = c.near_region_of.new.count; after = c.near_region_of-2.new.count } in
    counts_together g.I.IntNumber.unit c.args.boolean.now.rule c.args.boolean.now.fill (operand_of g.I.IntNumber.value c.args.boolean.now.subject) (operand_of g.I.IntNumber.value c.args.boolean.now.clip)
    first second c.overlay_regions_with_nearness.new.count (rw c.new-plain.ensures at c.in_ok-first.ensures.standing) (rw c.new-plain.ensures at c.in_ok-second.ensures.standing) refl
    c.near_region_of.ensures.counted c.near_region_of-2.ensures.counted c.overlay_regions_with_nearness.ensures.counted

pub returns-clause-counted : goal.returns-clause-counted
returns-clause-counted g c =
    let first : ToldRegion = record { region = shapes_of c.in_ok-first.first.shapes.items; nearness = c.in_ok-first.first.nearness; before = c.args.count.now; after = c.near_region_of.new.count } in
    let second : ToldRegion = record { region = shapes_of c.in_ok-second.second.shapes.items; nearness = c.in_ok-second.second.nearness; before = c.near_region_of.new.count; after = c.near_region_of-2.new.count } in
    counts_together g.I.IntNumber.unit c.args.boolean.now.rule c.args.boolean.now.fill (operand_of g.I.IntNumber.value c.args.boolean.now.subject) (operand_of g.I.IntNumber.value c.args.boolean.now.clip)
    first second c.overlay_regions_with_nearness.new.count (rw c.new-plain.ensures at c.in_ok-first.ensures.standing) (rw c.new-plain.ensures at c.in_ok-second.ensures.standing) refl
    c.near_region_of.ensures.counted c.near_region_of-2.ensures.counted c.overlay_regions_with_nearness.ensures.counted

pub returns-clause-combined : goal.returns-clause-combined
returns-clause-combined g c = record {
  first = record { region = shapes_of c.in_ok-first.first.shapes.items; nearness = c.in_ok-first.first.nearness; before = c.args.count.now; after = c.near_region_of.new.count };
  second = record { region = shapes_of c.in_ok-second.second.shapes.items; nearness = c.in_ok-second.second.nearness; before = c.near_region_of.new.count; after = c.near_region_of-2.new.count };
  last = c.in_ok-near.near.nearness;
  added = ap (λ n. n + c.in_ok-near.near.nearness) c.max.ensures;
  subject_alone = rw c.new-plain.ensures at c.in_ok-first.ensures.standing;
  clip_alone = rw c.new-plain.ensures at c.in_ok-second.ensures.standing;
  turn = (refl, refl);
  together = c.in_ok-near.ensures.regions;
  counted = c.in_ok-near.ensures.standing;
}
