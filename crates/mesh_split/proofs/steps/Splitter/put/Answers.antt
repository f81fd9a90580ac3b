use Rattle.std.proofs.Common.{arith}
use Rattle.std.proofs.lemmas.Result.{on_ok_weaker}
use Rattle.mesh_plane.proofs.Whole.{linear}
use Rattle.mesh_store.proofs.Filing.{total_least, room_turned, puts_back}
use Rattle.mesh_split.proofs.steps.Splitter.put.Goals as goal

pub backwards-requires : goal.backwards-requires
backwards-requires c = omega (arith, linear, c.requires.room, total_least c.args.self.now.todo c.args.self.now.live)

pub file-requires-2-clause-room : goal.file-requires-2-clause-room
file-requires-2-clause-room c = room_turned c.args.self.now.todo c.args.self.now.live c.args.s c.backwards.result c.backwards.ensures c.requires.room

pub returns-clause-puts : goal.returns-clause-puts
returns-clause-puts c =
    on_ok_weaker c.file-2.result
    (puts_back c.args.self.now.todo c.args.self.now.live c.file-2.new.self.todo c.file-2.new.self.live c.args.s c.backwards.result c.backwards.ensures)
    c.file-2.ensures.puts
