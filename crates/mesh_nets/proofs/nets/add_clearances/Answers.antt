-- One pair after another.
use Rattle.std.proofs.Common.{◌*◌, length, arith}
use Rattle.mesh_nets.proofs.Listing.{pair_added, row_decided}
use Rattle.mesh_nets.proofs.Outlined.{nets_count, nets_in, outline_at}
use Rattle.mesh_nets.proofs.nets.add_clearances.Goals as goal

pub loop-second-preserved : goal.loop-second-preserved
loop-second-preserved g c =
    let first = outline_at (nets_in c.args.nets.now) (length c.args.nets.now) c.args.first c.args.outlines.now c.index-outlines-first.result c.requires.outlines c.requires.within c.index-outlines-first.is in
    let second = outline_at (nets_in c.args.nets.now) (length c.args.nets.now) c.loop-second.second c.args.outlines.now c.index-outlines-second.result c.requires.outlines c.loop-second-test.true c.index-outlines-second.is in
    let count = nets_count c.args.nets.now in
    pair_added (nets_in c.args.nets.now) (c.args.distance * c.args.distance) c.args.first c.loop-second.second c.index-outlines-first.result.edges.items c.index-outlines-second.result.edges.items
    c.loop-second.found.items c.add_clearance.new.found.items (omega arith) (omega arith) first.edges second.edges c.in_ok-add_clearance.ensures c.loop-second.invariant

pub returns : goal.returns
returns g c =
    let count = nets_count c.args.nets.now in
    row_decided (nets_in c.args.nets.now) (c.args.distance * c.args.distance) c.args.first c.loop-second.second c.loop-second.found.items (omega arith) c.loop-second.invariant
