use Rattle.std.proofs.Common.{[], ◌∷◌}
use Rattle.mesh_store.specs.Witnesses.{forward}
use Rattle.mesh_store.proofs.Filing.{first_proper, second_proper, room_first, room_second, room_kept}
use Rattle.mesh_split.proofs.Waiting.{grows_both}
use Rattle.mesh_split.proofs.steps.Splitter.split_at.Goals as goal

pub put-requires-clause-proper : goal.put-requires-clause-proper
put-requires-clause-proper c = first_proper c.args.c c.args.s.0 c.requires.inner

pub put-requires-clause-room : goal.put-requires-clause-room
put-requires-clause-room c =
    let kept = room_kept c.args.self.now.todo c.args.self.now.live c.args.s c.requires.room in
    simp kept (room_first c.args.self.now.todo c.args.self.now.live c.args.s c.args.c c.requires.inner c.requires.in_box c.requires.room)

pub put-requires-2-clause-proper : goal.put-requires-2-clause-proper
put-requires-2-clause-proper c = second_proper c.args.c c.args.s.0 c.requires.inner

pub put-requires-2-clause-room : goal.put-requires-2-clause-room
put-requires-2-clause-room c =
    let kept = room_kept c.args.self.now.todo c.args.self.now.live c.args.s c.requires.room in
    let first = simp kept at c.in_ok-put.ensures.puts in
    simp kept
    (room_second c.args.self.now.todo c.args.self.now.live c.put.new.self.todo c.put.new.self.live c.args.s c.args.c c.requires.inner c.requires.in_box c.requires.room first)

pub returns-clause-pieces : goal.returns-clause-pieces
returns-clause-pieces c =
    let kept = room_kept c.args.self.now.todo c.args.self.now.live c.args.s c.requires.room in
    record { between = c.put.new.self.todo; beside = c.put.new.self.live; first = simp kept at c.in_ok-put.ensures.puts; second = simp kept at c.in_ok-put-2.ensures.puts }

pub returns-clause-grows : goal.returns-clause-grows
returns-clause-grows c =
    grows_both c.args.self.now.todo c.put.new.self.todo c.put-2.new.self.todo (forward (c.args.s.0.0, c.args.c) ∷ []) (forward (c.args.c, c.args.s.0.1) ∷ []) c.in_ok-put.ensures.grows c.in_ok-put-2.ensures.grows
