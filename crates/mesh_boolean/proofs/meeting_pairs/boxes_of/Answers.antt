-- One zone after another.
use Rattle.std.proofs.Common.{subst, length, ◌≡◌, arith}
use Rattle.mesh_boolean.specs.Private.Meeting.{AreBoxes}
use Rattle.mesh_boolean.proofs.Meeting.{boxes_more, no_boxes, zone_at, zones_in}
use Rattle.mesh_boolean.proofs.meeting_pairs.boxes_of.Goals as goal

pub loop-place-init : goal.loop-place-init
loop-place-init g c = no_boxes (zones_in c.args.zones.now) c.in_ok-boxes.boxes.items c.in_ok-boxes.ensures.items

pub loop-place-preserved : goal.loop-place-preserved
loop-place-preserved g c =
    boxes_more (zones_in c.args.zones.now) c.loop-place.place c.loop-place.boxes.items c.push.new.self.items c.in_ok-bounds_of.field-0 c.loop-place.invariant
    (rw (zone_at c.args.zones.now c.loop-place.place c.index-zones-place.result c.loop-place-test.true c.index-zones-place.is) c.in_ok-bounds_of.ensures) c.in_ok-push.ensures.items

pub returns : goal.returns
returns g c =
    let up : c.loop-place.place ≡ length c.args.zones.now = omega arith in
    subst (λ n. AreBoxes (zones_in c.args.zones.now) n c.loop-place.boxes.items) up c.loop-place.invariant
