-- One box after another.
use Rattle.std.proofs.Common.{◌+◌}
use Rattle.mesh_boolean.proofs.Meeting.{found_all, found_more, found_none, rest_of, rest_ordered}
use Rattle.mesh_boolean.proofs.meeting_pairs.all_pairs.Goals as goal

pub loop-index-init : goal.loop-index-init
loop-index-init g c = found_none c.args.boxes.now c.new-pairs.result.items c.new-pairs.ensures.items

pub add_pairs-requires : goal.add_pairs-requires
add_pairs-requires g c = rw (rest_of c.args.boxes.now (c.loop-index.index + 1)) (rest_ordered c.args.boxes.now (c.loop-index.index + 1) c.requires)

pub loop-index-preserved : goal.loop-index-preserved
loop-index-preserved g c =
    found_more c.args.boxes.now c.loop-index.index c.index-boxes-index.result c.loop-index.pairs.items c.add_pairs.new.pairs.items c.loop-index-test.true c.index-boxes-index.is c.loop-index.invariant
    (rw (rest_of c.args.boxes.now (c.loop-index.index + 1)) at c.in_ok-add_pairs.ensures)

pub returns : goal.returns
returns g c = found_all c.args.boxes.now c.loop-index.index c.loop-index.pairs.items c.loop-index-test.false c.loop-index.invariant
