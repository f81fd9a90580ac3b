use Rattle.std.proofs.Common.{[]}
use Rattle.mesh_rounds.proofs.Paths.{counted_of, told_of}
use Rattle.mesh_store.proofs.Room.{live_room}
use Rattle.mesh_rounds.proofs.splitter.split_edges_told.Goals as goal

pub returns-clause-splitting : goal.returns-clause-splitting
returns-clause-splitting c =
    let s = c.in_ok-settled.settled in
    told_of c.args.edges.now s.log s.segments.items c.in_ok-nearness.nearness c.requires c.in_ok-settled.ensures.settled c.in_ok-nearness.ensures.near

pub returns-clause-room : goal.returns-clause-room
returns-clause-room c =
    let s = c.in_ok-settled.settled in
    live_room [] s.segments.items c.in_ok-settled.ensures.settled.pile.light

pub returns-clause-standing : goal.returns-clause-standing
returns-clause-standing c =
    let s = c.in_ok-settled.settled in
    let told = c.in_ok-settled.ensures in
    counted_of c.args.edges.now s.log s.segments.items c.in_ok-nearness.nearness c.args.count.now c.settled.new.count c.requires told.settled c.in_ok-nearness.ensures.near told.standing
