use Rattle.std.proofs.Common.{sym, ◌∙◌, subst}
use Rattle.mesh_plane.specs.Plane.{Edge}
use Rattle.mesh_lattice.specs.Split.{IsInBox}
use Rattle.mesh_lattice.proofs.Boxes.{meets_box, meets_once}
use Rattle.mesh_lattice.proofs.Ends.{forward_proper}
use Rattle.mesh_store.proofs.Filing.{room_taken, room_other, room_pieces}
use Rattle.mesh_split.proofs.Settling.{settles_first, settles_second, settles_both}
use Rattle.mesh_store.specs.Steps.{IsForward}
use Rattle.mesh_split.proofs.steps.Splitter.split.Goals as goal

pub split_at-requires-clause-inner : goal.split_at-requires-clause-inner
split_at-requires-clause-inner c = meets_once c.requires.meets (sym c.is_end.ensures ∙ c.if-is_end.true)

pub split_at-requires-clause-in_box : goal.split_at-requires-clause-in_box
split_at-requires-clause-in_box c = (meets_box c.requires.meets).0

pub returns-then-is_end : goal.returns-then-is_end
returns-then-is_end c =
    rw c.in_ok-split_at.ensures.log
    (settles_first c.args.self.now.log c.args.self.now.todo c.args.self.now.live c.split_at.new.self.todo c.split_at.new.self.live c.args.s c.args.m.0 c.args.m.1
    (record { proper = c.requires.proper; meets = c.requires.meets; lives = c.requires.lives })
    (sym c.is_end.ensures ∙ c.if-is_end.true) c.in_ok-split_at.ensures.pieces)

pub put-requires-clause-room : goal.put-requires-clause-room
put-requires-clause-room c =
    room_taken c.args.self.now.todo c.args.self.now.live c.remove-other.new.self c.args.s c.remove-other.result c.remove-other.ensures.taken c.requires.room

pub split_at-requires-then-is_end-2-clause-in_box : goal.split_at-requires-then-is_end-2-clause-in_box
split_at-requires-then-is_end-2-clause-in_box c = subst (λ (e : Edge). IsInBox e c.args.m.1) (sym c.remove-other.ensures.ends) (meets_box c.requires.meets).1

pub split_at-requires-then-is_end-2-clause-room : goal.split_at-requires-then-is_end-2-clause-room
split_at-requires-then-is_end-2-clause-room c =
    room_other c.args.self.now.todo c.args.self.now.live c.remove-other.new.self c.put.new.self.todo c.put.new.self.live c.args.s c.remove-other.result
    c.remove-other.ensures.taken c.in_ok-put.ensures.puts c.requires.room

pub returns-then-is_end-2 : goal.returns-then-is_end-2
returns-then-is_end-2 c =
    rw (c.in_ok-split_at-2.ensures.log, c.put.ensures.log)
    (settles_second c.args.self.now.log c.args.self.now.todo c.args.self.now.live c.remove-other.new.self c.put.new.self.todo c.put.new.self.live
    c.split_at-then-is_end-2.new.self.todo c.split_at-then-is_end-2.new.self.live c.args.s c.remove-other.result c.args.m.0 c.args.m.1
    (record { proper = c.requires.proper; meets = c.requires.meets; lives = c.requires.lives })
    (sym c.is_end-2.ensures ∙ c.if-is_end-2.true) (sym c.is_end.ensures ∙ c.if-is_end.false)
    (forward_proper c.remove-other.result.0 (subst IsForward (sym c.remove-other.ensures.ends) c.remove-other.ensures.forward))
    c.remove-other.ensures.ends c.remove-other.ensures.taken c.in_ok-put.ensures.puts c.in_ok-split_at-2.ensures.pieces)

pub split_at-requires-2-clause-in_box : goal.split_at-requires-2-clause-in_box
split_at-requires-2-clause-in_box c = (meets_box c.requires.meets).0

pub split_at-requires-2-clause-room : goal.split_at-requires-2-clause-room
split_at-requires-2-clause-room c =
    room_taken c.args.self.now.todo c.args.self.now.live c.remove-other.new.self c.args.s c.remove-other.result c.remove-other.ensures.taken c.requires.room

pub split_at-requires-3-clause-in_box : goal.split_at-requires-3-clause-in_box
split_at-requires-3-clause-in_box c = subst (λ (e : Edge). IsInBox e c.args.m.1) (sym c.remove-other.ensures.ends) (meets_box c.requires.meets).1

pub split_at-requires-3-clause-room : goal.split_at-requires-3-clause-room
split_at-requires-3-clause-room c =
    room_pieces c.args.self.now.todo c.args.self.now.live c.remove-other.new.self c.split_at-2.new.self.todo c.split_at-2.new.self.live c.args.s c.remove-other.result c.args.m.1
    (sym c.is_end-2.ensures ∙ c.if-is_end-2.false) (meets_box c.requires.meets).0 c.remove-other.ensures.taken c.in_ok-split_at-3.ensures.pieces c.requires.room

pub returns : goal.returns
returns c =
    rw (c.in_ok-split_at-4.ensures.log, c.in_ok-split_at-3.ensures.log)
    (settles_both c.args.self.now.log c.args.self.now.todo c.args.self.now.live c.remove-other.new.self c.split_at-2.new.self.todo c.split_at-2.new.self.live
    c.split_at-3.new.self.todo c.split_at-3.new.self.live c.args.s c.remove-other.result c.args.m.0 c.args.m.1
    (record { proper = c.requires.proper; meets = c.requires.meets; lives = c.requires.lives })
    (sym c.is_end-2.ensures ∙ c.if-is_end-2.false) (sym c.is_end.ensures ∙ c.if-is_end.false)
    (forward_proper c.remove-other.result.0 (subst IsForward (sym c.remove-other.ensures.ends) c.remove-other.ensures.forward))
    c.remove-other.ensures.ends c.remove-other.ensures.taken c.in_ok-split_at-3.ensures.pieces c.in_ok-split_at-4.ensures.pieces)
