-- One pair after another.
use Rattle.std.proofs.Common.{◌≡◌, ◌+◌, ◌*◌, ◌≤◌, ◌^◌, length, sym, ap, arith}
use Rattle.std.specs.Prelude.{max}
use Rattle.std.proofs.lemmas.List.{length-map}
use Rattle.mesh_num.specs.Paths.{shapes_of}
use Rattle.mesh_below.specs.Options.{choices_of}
use Rattle.mesh_offset.proofs.Counting.{counts_none}
use Rattle.mesh_boolean.specs.Overlaps.{IsPairDrawing, overlaps_of}
use Rattle.mesh_boolean.proofs.Meeting.{zones_in}
use Rattle.mesh_boolean.proofs.Overlapping.{pair_counted, pair_places, pairs_counted, records_safe}
use Rattle.mesh_boolean.proofs.Told.{all_told, next_told, none_safe, none_told, one_safe}
use Rattle.mesh_boolean.proofs.overlaps.overlaps_with_nearness.Goals as goal

pub returns-in_err-pairs-clause-counted : goal.returns-in_err-pairs-clause-counted
returns-in_err-pairs-clause-counted g c = counts_none (length c.args.zones.now * length c.args.zones.now) (IsPairDrawing (zones_in c.args.zones.now)) c.args.count.now (omega arith)

pub loop-pair-init : goal.loop-pair-init
loop-pair-init g c = record {
  so_far =
      none_told (zones_in c.args.zones.now) (choices_of g.I.WideUInt.WideUnsigned.value c.args.options) (overlaps_of c.new-overlaps.result.items) c.args.count.now
      (ap overlaps_of c.new-overlaps.ensures.items);
  safe = none_safe g.I.IntNumber.unit (overlaps_of c.new-overlaps.result.items) (ap overlaps_of c.new-overlaps.ensures.items);
  small = omega arith;
  counts = counts_none 0 (IsPairDrawing (zones_in c.args.zones.now)) c.args.count.now (omega arith);
  limit = c.is_past_limit.ensures.within c.if-is_past_limit.false;
}

pub add_near_overlap-requires-clause-first : goal.add_near_overlap-requires-clause-first
add_near_overlap-requires-clause-first g c =
    let meet = rw (sym c.deref-pair-items.ensures.value) at c.in_ok-pairs.ensures in
    (pair_places c.args.zones.now c.deref-pair-items.result.now c.loop-pair.pair-index meet c.loop-pair-test.true).0

pub add_near_overlap-requires-clause-second : goal.add_near_overlap-requires-clause-second
add_near_overlap-requires-clause-second g c =
    let meet = rw (sym c.deref-pair-items.ensures.value) at c.in_ok-pairs.ensures in
    (pair_places c.args.zones.now c.deref-pair-items.result.now c.loop-pair.pair-index meet c.loop-pair-test.true).1

pub returns-in_err-own-clause-counted : goal.returns-in_err-own-clause-counted
returns-in_err-own-clause-counted g c =
    let meet = rw (sym c.deref-pair-items.ensures.value) at c.in_ok-pairs.ensures in
    pairs_counted (zones_in c.args.zones.now) c.deref-pair-items.result.now meet (c.loop-pair.pair-index + 1) (length c.args.zones.now) c.args.count.now c.add_near_overlap.new.count (omega arith)
    (length-map c.args.zones.now (λ zone. shapes_of zone.items))
    (pair_counted (zones_in c.args.zones.now) c.deref-pair-items.result.now meet c.loop-pair.pair-index c.args.count.now c.loop-pair.count c.add_near_overlap.new.count c.loop-pair-test.true
    c.loop-pair.invariant.counts c.add_near_overlap.ensures.counted)

pub loop-pair-preserved : goal.loop-pair-preserved
loop-pair-preserved g c =
    let meet = rw (sym c.deref-pair-items.ensures.value) at c.in_ok-pairs.ensures in
    let most : c.max-nearness.result ≡ max c.loop-pair.nearness c.in_ok-own.own = c.max-nearness.ensures in
    record {
      so_far =
          next_told (zones_in c.args.zones.now) (choices_of g.I.WideUInt.WideUnsigned.value c.args.options) c.deref-pair-items.result.now meet g.I.IntNumber.unit c.loop-pair.pair-index c.in_ok-own.own
          c.loop-pair.nearness c.max-nearness.result (overlaps_of c.loop-pair.overlaps.items) (overlaps_of c.add_near_overlap.new.found.items) c.args.count.now c.loop-pair.count c.add_near_overlap.new.count
          c.loop-pair-test.true most c.loop-pair.invariant.so_far c.in_ok-own.ensures.adds;
      safe =
          one_safe g.I.IntNumber.unit _ _ (overlaps_of c.loop-pair.overlaps.items) (overlaps_of c.add_near_overlap.new.found.items) c.loop-pair.invariant.safe
          c.in_ok-own.ensures.adds;
      small =
          let own : c.in_ok-own.own ≤ 2 ^ 38 = c.in_ok-own.ensures.small in
          let before = c.loop-pair.invariant.small in omega (arith, most, own, before);
      counts =
          pair_counted (zones_in c.args.zones.now) c.deref-pair-items.result.now meet c.loop-pair.pair-index c.args.count.now c.loop-pair.count c.add_near_overlap.new.count c.loop-pair-test.true
          c.loop-pair.invariant.counts c.add_near_overlap.ensures.counted;
      limit = c.in_ok-own.ensures.within;
    }

pub returns-clause-overlaps : goal.returns-clause-overlaps
returns-clause-overlaps g c =
    let meet = rw (sym c.deref-pair-items.ensures.value) at c.in_ok-pairs.ensures in
    all_told (zones_in c.args.zones.now) (choices_of g.I.WideUInt.WideUnsigned.value c.args.options) c.deref-pair-items.result.now meet c.loop-pair.pair-index c.loop-pair.nearness
    (overlaps_of c.loop-pair.overlaps.items) c.args.count.now c.loop-pair.count c.loop-pair-test.false c.loop-pair.invariant.so_far

pub returns-clause-safe : goal.returns-clause-safe
returns-clause-safe g c = records_safe g.I.IntNumber.unit c.loop-pair.overlaps.items c.loop-pair.invariant.safe

pub returns-clause-small : goal.returns-clause-small
returns-clause-small g c = c.loop-pair.invariant.small

pub returns-clause-counted : goal.returns-clause-counted
returns-clause-counted g c =
    let meet = rw (sym c.deref-pair-items.ensures.value) at c.in_ok-pairs.ensures in
    pairs_counted (zones_in c.args.zones.now) c.deref-pair-items.result.now meet c.loop-pair.pair-index (length c.args.zones.now) c.args.count.now c.loop-pair.count (omega arith)
    (length-map c.args.zones.now (λ zone. shapes_of zone.items)) c.loop-pair.invariant.counts

pub returns-clause-within : goal.returns-clause-within
returns-clause-within g c = c.loop-pair.invariant.limit
