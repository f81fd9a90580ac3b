use Rattle.std.proofs.Common.{◌≡◌, true, false, sym, ◌∙◌, subst}
use Rattle.mesh_plane.specs.Plane.{Edge}
use Rattle.mesh_lattice.specs.Split.{is_end, IsInBox, Meets}
use Rattle.mesh_lattice.proofs.Boxes.{meets_box, meets_once}
use Rattle.mesh_lattice.proofs.Ends.{forward_proper}
use Rattle.mesh_store.proofs.Filing.{weight_one}
use Rattle.mesh_split.proofs.Piles.{other_lives}
use Rattle.mesh_split.proofs.Starting.{popped_room}
use Rattle.mesh_split.proofs.Waiting.{waiting_first, waiting_second, waiting_both, room_waiting_both, room_waiting_back, room_waiting_taken, grows_first, grows_second, grows_pair, none_put, none_split}
use Rattle.mesh_split.proofs.steps.Splitter.split_waiting.Goals as goal

pub split_at-requires-clause-inner : goal.split_at-requires-clause-inner
split_at-requires-clause-inner c =
    subst (λ (e : Edge). is_end c.args.m.1 e ≡ false) (sym c.remove-s.ensures.ends) (meets_once c.requires.meets (sym c.is_end.ensures ∙ c.if-is_end.true))

pub split_at-requires-clause-in_box : goal.split_at-requires-clause-in_box
split_at-requires-clause-in_box c = subst (λ (e : Edge). IsInBox e c.args.m.1) (sym c.remove-s.ensures.ends) (meets_box c.requires.meets).0

pub split_at-requires-clause-room : goal.split_at-requires-clause-room
split_at-requires-clause-room c = popped_room c.args.self.now.todo c.remove-s.new.self c.args.self.now.live c.remove-s.result c.remove-s.ensures.taken c.requires.room

pub returns-then-is_end-clause-kept : goal.returns-then-is_end-clause-kept
returns-then-is_end-clause-kept c = λ given p.
    rw c.in_ok-split_at.ensures.log
    (waiting_first given c.args.self.now.log c.args.self.now.todo c.remove-s.new.self c.args.self.now.live c.split_at.new.self.todo c.split_at.new.self.live c.remove-s.result c.args.m.0 c.args.m.1
    (record {
      taken = c.remove-s.ensures.taken;
      proper = forward_proper c.remove-s.result.0 c.remove-s.ensures.forward;
      meets = subst (λ (e : Edge). Meets e c.args.m.0 c.args.m.1) (sym c.remove-s.ensures.ends) c.requires.meets;
      waits = other_lives c.args.self.now.todo c.remove-s.new.self c.remove-s.result c.args.first c.args.m.0 c.args.m.1 c.remove-s.ensures.taken c.remove-s.ensures.ends c.requires.meets c.requires.second_waits;
    })
    (sym c.is_end.ensures ∙ c.if-is_end.true) c.in_ok-split_at.ensures.pieces p)

pub returns-then-is_end-clause-none_lives : goal.returns-then-is_end-clause-none_lives
returns-then-is_end-clause-none_lives c =
    none_split c.remove-s.new.self c.args.self.now.live c.split_at.new.self.todo c.split_at.new.self.live c.remove-s.result c.args.m.1 c.requires.none_lives c.in_ok-split_at.ensures.pieces

pub returns-then-is_end-clause-grows : goal.returns-then-is_end-clause-grows
returns-then-is_end-clause-grows c =
    grows_first c.args.self.now.todo c.remove-s.new.self c.split_at.new.self.todo c.remove-s.result c.args.first c.args.m c.remove-s.ensures.taken c.remove-s.ensures.ends c.in_ok-split_at.ensures.grows

pub remove-other-requires : goal.remove-other-requires
remove-other-requires c =
    other_lives c.args.self.now.todo c.remove-s.new.self c.remove-s.result c.args.first c.args.m.0 c.args.m.1 c.remove-s.ensures.taken c.remove-s.ensures.ends c.requires.meets c.requires.second_waits

pub put-requires-clause-room : goal.put-requires-clause-room
put-requires-clause-room c =
    room_waiting_taken c.args.self.now.todo c.remove-s.new.self c.args.self.now.live c.remove-other.new.self c.remove-s.result c.remove-other.result c.remove-s.ensures.taken c.remove-other.ensures.taken
    (weight_one c.remove-other.result) c.requires.room

pub split_at-requires-then-is_end-2-clause-in_box : goal.split_at-requires-then-is_end-2-clause-in_box
split_at-requires-then-is_end-2-clause-in_box c = subst (λ (e : Edge). IsInBox e c.args.m.1) (sym c.remove-other.ensures.ends) (meets_box c.requires.meets).1

pub split_at-requires-then-is_end-2-clause-room : goal.split_at-requires-then-is_end-2-clause-room
split_at-requires-then-is_end-2-clause-room c =
    room_waiting_back c.args.self.now.todo c.remove-s.new.self c.args.self.now.live c.remove-other.new.self c.put.new.self.todo c.put.new.self.live c.remove-s.result c.remove-other.result
    c.remove-s.ensures.taken c.remove-other.ensures.taken c.in_ok-put.ensures.puts c.requires.room

pub returns-then-is_end-2-clause-kept : goal.returns-then-is_end-2-clause-kept
returns-then-is_end-2-clause-kept c = λ given p.
    rw (c.in_ok-split_at-2.ensures.log, c.put.ensures.log)
    (waiting_second given c.args.self.now.log c.args.self.now.todo c.remove-s.new.self c.args.self.now.live c.remove-other.new.self c.put.new.self.todo c.put.new.self.live
    c.split_at-then-is_end-2.new.self.todo c.split_at-then-is_end-2.new.self.live c.remove-s.result c.remove-other.result c.args.m.0 c.args.m.1
    (record {
      taken = c.remove-s.ensures.taken;
      proper = forward_proper c.remove-s.result.0 c.remove-s.ensures.forward;
      meets = subst (λ (e : Edge). Meets e c.args.m.0 c.args.m.1) (sym c.remove-s.ensures.ends) c.requires.meets;
      waits = other_lives c.args.self.now.todo c.remove-s.new.self c.remove-s.result c.args.first c.args.m.0 c.args.m.1 c.remove-s.ensures.taken c.remove-s.ensures.ends c.requires.meets c.requires.second_waits;
    })
    (subst (λ (e : Edge). is_end c.args.m.1 e ≡ true) (sym c.remove-s.ensures.ends) (sym c.is_end-2.ensures ∙ c.if-is_end-2.true)) (sym c.is_end.ensures ∙ c.if-is_end.false)
    (forward_proper c.remove-other.result.0 c.remove-other.ensures.forward) c.remove-other.ensures.ends c.remove-other.ensures.taken c.in_ok-put.ensures.puts c.in_ok-split_at-2.ensures.pieces p)

pub returns-then-is_end-2-clause-none_lives : goal.returns-then-is_end-2-clause-none_lives
returns-then-is_end-2-clause-none_lives c =
    none_split c.put.new.self.todo c.put.new.self.live c.split_at-then-is_end-2.new.self.todo c.split_at-then-is_end-2.new.self.live c.remove-other.result c.args.m.1
    (none_put c.remove-other.new.self c.args.self.now.live c.put.new.self.todo c.put.new.self.live c.remove-s.result c.requires.none_lives c.in_ok-put.ensures.puts) c.in_ok-split_at-2.ensures.pieces

pub returns-then-is_end-2-clause-grows : goal.returns-then-is_end-2-clause-grows
returns-then-is_end-2-clause-grows c =
    grows_second c.args.self.now.todo c.remove-s.new.self c.remove-other.new.self c.put.new.self.todo c.split_at-then-is_end-2.new.self.todo c.remove-s.result c.remove-other.result c.args.first c.args.m
    c.remove-s.ensures.taken c.remove-other.ensures.taken c.remove-s.ensures.ends c.remove-other.ensures.ends c.requires.first_waits c.remove-s.ensures.forward c.in_ok-put.ensures.grows
    c.in_ok-split_at-2.ensures.grows

pub split_at-requires-2-clause-in_box : goal.split_at-requires-2-clause-in_box
split_at-requires-2-clause-in_box c = subst (λ (e : Edge). IsInBox e c.args.m.1) (sym c.remove-s.ensures.ends) (meets_box c.requires.meets).0

pub split_at-requires-2-clause-room : goal.split_at-requires-2-clause-room
split_at-requires-2-clause-room c =
    room_waiting_taken c.args.self.now.todo c.remove-s.new.self c.args.self.now.live c.remove-other.new.self c.remove-s.result c.remove-other.result c.remove-s.ensures.taken c.remove-other.ensures.taken
    (weight_one c.remove-other.result) c.requires.room

pub split_at-requires-3-clause-in_box : goal.split_at-requires-3-clause-in_box
split_at-requires-3-clause-in_box c = subst (λ (e : Edge). IsInBox e c.args.m.1) (sym c.remove-other.ensures.ends) (meets_box c.requires.meets).1

pub split_at-requires-3-clause-room : goal.split_at-requires-3-clause-room
split_at-requires-3-clause-room c =
    room_waiting_both c.args.self.now.todo c.remove-s.new.self c.args.self.now.live c.remove-other.new.self c.split_at-2.new.self.todo c.split_at-2.new.self.live c.remove-s.result c.remove-other.result c.args.m.1
    c.remove-s.ensures.taken c.remove-other.ensures.taken
    (subst (λ (e : Edge). is_end c.args.m.1 e ≡ false) (sym c.remove-s.ensures.ends) (sym c.is_end-2.ensures ∙ c.if-is_end-2.false))
    (subst (λ (e : Edge). IsInBox e c.args.m.1) (sym c.remove-s.ensures.ends) (meets_box c.requires.meets).0) c.in_ok-split_at-3.ensures.pieces c.requires.room

pub returns-clause-kept : goal.returns-clause-kept
returns-clause-kept c = λ given p.
    rw (c.in_ok-split_at-4.ensures.log, c.in_ok-split_at-3.ensures.log)
    (waiting_both given c.args.self.now.log c.args.self.now.todo c.remove-s.new.self c.args.self.now.live c.remove-other.new.self c.split_at-2.new.self.todo c.split_at-2.new.self.live
    c.split_at-3.new.self.todo c.split_at-3.new.self.live c.remove-s.result c.remove-other.result c.args.m.0 c.args.m.1
    (record {
      taken = c.remove-s.ensures.taken;
      proper = forward_proper c.remove-s.result.0 c.remove-s.ensures.forward;
      meets = subst (λ (e : Edge). Meets e c.args.m.0 c.args.m.1) (sym c.remove-s.ensures.ends) c.requires.meets;
      waits = other_lives c.args.self.now.todo c.remove-s.new.self c.remove-s.result c.args.first c.args.m.0 c.args.m.1 c.remove-s.ensures.taken c.remove-s.ensures.ends c.requires.meets c.requires.second_waits;
    })
    (subst (λ (e : Edge). is_end c.args.m.1 e ≡ false) (sym c.remove-s.ensures.ends) (sym c.is_end-2.ensures ∙ c.if-is_end-2.false)) (sym c.is_end.ensures ∙ c.if-is_end.false)
    (forward_proper c.remove-other.result.0 c.remove-other.ensures.forward) c.remove-other.ensures.ends c.remove-other.ensures.taken c.in_ok-split_at-3.ensures.pieces c.in_ok-split_at-4.ensures.pieces p)

pub returns-clause-none_lives : goal.returns-clause-none_lives
returns-clause-none_lives c =
    none_split c.split_at-2.new.self.todo c.split_at-2.new.self.live c.split_at-3.new.self.todo c.split_at-3.new.self.live c.remove-other.result c.args.m.1
    (none_split c.remove-other.new.self c.args.self.now.live c.split_at-2.new.self.todo c.split_at-2.new.self.live c.remove-s.result c.args.m.1 c.requires.none_lives c.in_ok-split_at-3.ensures.pieces)
    c.in_ok-split_at-4.ensures.pieces

pub returns-clause-grows : goal.returns-clause-grows
returns-clause-grows c =
    grows_pair c.args.self.now.todo c.remove-s.new.self c.remove-other.new.self c.split_at-2.new.self.todo c.split_at-3.new.self.todo c.remove-s.result c.remove-other.result c.args.first c.args.m
    c.remove-s.ensures.taken c.remove-other.ensures.taken c.remove-s.ensures.ends c.remove-other.ensures.ends c.in_ok-split_at-3.ensures.grows c.in_ok-split_at-4.ensures.grows
