use Rattle.std.proofs.Common.{[]}
use Rattle.mesh_rounds.proofs.Paths.{splitting_of}
use Rattle.mesh_store.proofs.Room.{live_room}
use Rattle.mesh_rounds.proofs.splitter.split_edges.Goals as goal

pub returns-clause-splitting : goal.returns-clause-splitting
returns-clause-splitting c =
    let s = c.in-Ok.settled in
    splitting_of c.args.edges.now s.log s.segments.items c.requires c.in-Ok.ensures.settled

pub returns-clause-room : goal.returns-clause-room
returns-clause-room c =
    let s = c.in-Ok.settled in
    live_room [] s.segments.items c.in-Ok.ensures.settled.pile.light
