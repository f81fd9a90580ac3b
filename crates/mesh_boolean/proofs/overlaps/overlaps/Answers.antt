-- One pair after another.
use Rattle.std.proofs.Common.{ap, sym}
use Rattle.mesh_below.specs.Options.{choices_of}
use Rattle.mesh_boolean.specs.Overlaps.{AreCommonRegions, overlaps_of}
use Rattle.mesh_boolean.proofs.Meeting.{zones_in}
use Rattle.mesh_boolean.proofs.Overlapping.{all_overlaps, all_resolved, next_resolved, none_resolved, pair_places, records_safe}
use Rattle.mesh_boolean.proofs.overlaps.overlaps.Goals as goal

pub loop-pair-init : goal.loop-pair-init
loop-pair-init g c =
    none_resolved g.I.IntNumber.unit (AreCommonRegions (zones_in c.args.zones.now) (choices_of g.I.WideUInt.WideUnsigned.value c.args.options)) (overlaps_of c.new-found.result.items) (ap overlaps_of c.new-found.ensures.items)

pub add_overlap-requires-clause-first : goal.add_overlap-requires-clause-first
add_overlap-requires-clause-first g c =
    let meet = rw (sym c.deref-pair-items.ensures.value) at c.in_ok-pairs.ensures in
    (pair_places c.args.zones.now c.deref-pair-items.result.now c.loop-pair.pair-index meet c.loop-pair-test.true).0

pub add_overlap-requires-clause-second : goal.add_overlap-requires-clause-second
add_overlap-requires-clause-second g c =
    let meet = rw (sym c.deref-pair-items.ensures.value) at c.in_ok-pairs.ensures in
    (pair_places c.args.zones.now c.deref-pair-items.result.now c.loop-pair.pair-index meet c.loop-pair-test.true).1

pub loop-pair-preserved : goal.loop-pair-preserved
loop-pair-preserved g c =
    let meet = rw (sym c.deref-pair-items.ensures.value) at c.in_ok-pairs.ensures in
    next_resolved g.I.IntNumber.unit (AreCommonRegions (zones_in c.args.zones.now) (choices_of g.I.WideUInt.WideUnsigned.value c.args.options)) c.deref-pair-items.result.now meet.ordered
    c.loop-pair.pair-index (overlaps_of c.loop-pair.found.items) (overlaps_of c.add_overlap.new.found.items) c.loop-pair-test.true c.loop-pair.invariant c.in_ok-add_overlap.ensures

pub returns-clause-overlaps : goal.returns-clause-overlaps
returns-clause-overlaps g c =
    let meet = rw (sym c.deref-pair-items.ensures.value) at c.in_ok-pairs.ensures in
    all_overlaps g.I.IntNumber.unit (zones_in c.args.zones.now) (choices_of g.I.WideUInt.WideUnsigned.value c.args.options) c.deref-pair-items.result.now (overlaps_of c.loop-pair.found.items) meet
    (all_resolved g.I.IntNumber.unit (AreCommonRegions (zones_in c.args.zones.now) (choices_of g.I.WideUInt.WideUnsigned.value c.args.options)) c.deref-pair-items.result.now meet.ordered
    c.loop-pair.pair-index (overlaps_of c.loop-pair.found.items) c.loop-pair-test.false c.loop-pair.invariant)

pub returns-clause-safe : goal.returns-clause-safe
returns-clause-safe g c = records_safe g.I.IntNumber.unit c.loop-pair.found.items c.loop-pair.invariant.safe
