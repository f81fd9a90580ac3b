use Rattle.std.proofs.Common.{Bool, subst}
use Rattle.mesh_store.specs.Steps.{AddsIf}
use Rattle.mesh_store.proofs.Filing.{room_live, room_waiting, raised_live, filed}
use Rattle.mesh_split.proofs.Waiting.{grows_raised}
use Rattle.mesh_split.proofs.steps.Splitter.file.Goals as goal

pub add-requires-clause-room : goal.add-requires-clause-room
add-requires-clause-room c = room_live c.args.self.now.todo c.args.self.now.live c.args.s c.requires.room

pub returns-then-added-clause-puts : goal.returns-then-added-clause-puts
returns-then-added-clause-puts c =
    raised_live c.args.self.now.todo c.args.self.now.live c.add.new.self c.args.s
    (subst (λ (b : Bool). AddsIf b c.args.self.now.live c.add.new.self c.args.s) c.if-added.true c.in_ok-added.ensures)

pub add-requires-2-clause-room : goal.add-requires-2-clause-room
add-requires-2-clause-room c = room_waiting c.args.self.now.todo c.args.self.now.live c.args.s c.requires.room

pub returns-clause-puts : goal.returns-clause-puts
returns-clause-puts c =
    filed c.args.self.now.todo c.args.self.now.live c.add-2.new.self c.add.new.self c.args.s
    (subst (λ (b : Bool). AddsIf b c.args.self.now.live c.add.new.self c.args.s) c.if-added.false c.in_ok-added.ensures) c.in_ok-add.ensures

pub returns-clause-grows : goal.returns-clause-grows
returns-clause-grows c = grows_raised c.args.self.now.todo c.add-2.new.self c.args.s c.in_ok-add.ensures
