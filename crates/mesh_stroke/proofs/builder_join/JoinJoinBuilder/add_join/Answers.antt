-- A corner that turns to the right is drawn as it is seen from its other end.
use Rattle.std.proofs.Common.{length, sym, subst, ◌∙◌, ap}
use Rattle.std.specs.Prelude.{vec_capacity, pos, unsigned_abs, ◌≤ℤ◌}
use Rattle.std.specs.Ordering.{is_lt}
use Rattle.mesh_offset.proofs.Adding.{on_ok_then}
use Rattle.mesh_offset.proofs.Padding.{between_safe}
use Rattle.mesh_stroke.specs.Private.Sections.{own_edge, faced_side}
use Rattle.mesh_stroke.specs.Strokes.{EdgePair}
use Rattle.mesh_stroke.proofs.Corners.{left_turn, turned_there, compared_below, compared_above, drawn_there, drawn_here}
use Rattle.mesh_stroke.proofs.Fitting.{room_there, room_here}
use Rattle.mesh_stroke.proofs.builder_join.JoinJoinBuilder.add_join.Goals as goal

pub turn_between-turn-requires-clause-previous : goal.turn_between-turn-requires-clause-previous
turn_between-turn-requires-clause-previous g c =
    between_safe g.I.IntNumber.unit (unsigned_abs (g.I.IntNumber.value c.args.radius)) c.args.previous.now.a
    c.args.previous.now.b c.requires.previous.safe_a c.requires.previous.safe_b

pub turn_between-turn-requires-clause-next : goal.turn_between-turn-requires-clause-next
turn_between-turn-requires-clause-next g c =
    between_safe g.I.IntNumber.unit (unsigned_abs (g.I.IntNumber.value c.args.radius)) c.args.next.now.a
    c.args.next.now.b c.requires.next.safe_a c.requires.next.safe_b

pub add_facing-requires-clause-facing : goal.add_facing-requires-clause-facing
add_facing-requires-clause-facing g c =
    let right =
    compared_below (left_turn (own_edge c.args.previous.now, own_edge c.args.next.now))
    (sym (c.is_lt.ensures ∙ ap is_lt c.turn_between-turn.ensures) ∙ c.if-is_lt.true) in
    subst (λ (k : EdgePair). pos 0 ≤ℤ left_turn k)
    (λ i. (sym c.reversed.ensures.edge i, sym c.reversed-then-is_lt.ensures.edge i))
    (turned_there (own_edge c.args.previous.now) (own_edge c.args.next.now) right)

pub returns-then-is_lt-clause-ok : goal.returns-then-is_lt-clause-ok
returns-then-is_lt-clause-ok g c =
    let right =
    compared_below (left_turn (own_edge c.args.previous.now, own_edge c.args.next.now))
    (sym (c.is_lt.ensures ∙ ap is_lt c.turn_between-turn.ensures) ∙ c.if-is_lt.true) in
    let faced = c.faced_side-faced.ensures.value ∙ ap (faced_side c.args.side) (sym c.is_lt.ensures ∙ c.if-is_lt.true) in
    on_ok_then c.add_facing.result c.add_facing.ensures.ok
    (λ h. drawn_there g.I.IntNumber.unit (g.I.IntNumber.value c.args.radius) c.args.side c.args.self.now
    (own_edge c.args.previous.now) (own_edge c.args.next.now)
    (own_edge c.reversed.result) (own_edge c.reversed-then-is_lt.result)
    c.args.segments.now.items c.add_facing.new.segments.items
    right c.reversed.ensures.edge c.reversed-then-is_lt.ensures.edge (rw faced at h))

pub add_facing-requires-2-clause-facing : goal.add_facing-requires-2-clause-facing
add_facing-requires-2-clause-facing g c =
    compared_above (left_turn (own_edge c.args.previous.now, own_edge c.args.next.now))
    (sym (c.is_lt.ensures ∙ ap is_lt c.turn_between-turn.ensures) ∙ c.if-is_lt.false)

pub returns-clause-ok : goal.returns-clause-ok
returns-clause-ok g c =
    let left =
    compared_above (left_turn (own_edge c.args.previous.now, own_edge c.args.next.now))
    (sym (c.is_lt.ensures ∙ ap is_lt c.turn_between-turn.ensures) ∙ c.if-is_lt.false) in
    let faced = c.faced_side-faced.ensures.value ∙ ap (faced_side c.args.side) (sym c.is_lt.ensures ∙ c.if-is_lt.false) in
    on_ok_then c.add_facing-2.result c.add_facing-2.ensures.ok
    (λ h. drawn_here g.I.IntNumber.unit (g.I.IntNumber.value c.args.radius) c.args.side c.args.self.now
    c.args.previous.now c.args.next.now c.args.segments.now.items c.add_facing-2.new.segments.items left (rw faced at h))

pub returns-then-is_lt-clause-room : goal.returns-then-is_lt-clause-room
returns-then-is_lt-clause-room g c few room =
    let right =
    compared_below (left_turn (own_edge c.args.previous.now, own_edge c.args.next.now))
    (sym (c.is_lt.ensures ∙ ap is_lt c.turn_between-turn.ensures) ∙ c.if-is_lt.true) in
    let faced = c.faced_side-faced.ensures.value ∙ ap (faced_side c.args.side) (sym c.is_lt.ensures ∙ c.if-is_lt.true) in
    c.add_facing.ensures.room few
    (rw faced
    (room_there g.I.IntNumber.unit (g.I.IntNumber.value c.args.radius) c.args.side c.args.self.now
    (own_edge c.args.previous.now) (own_edge c.args.next.now)
    (own_edge c.reversed.result) (own_edge c.reversed-then-is_lt.result)
    (length c.args.segments.now.items) (vec_capacity c.args.segments.now)
    right c.reversed.ensures.edge c.reversed-then-is_lt.ensures.edge room))

pub returns-clause-room : goal.returns-clause-room
returns-clause-room g c few room =
    let left =
    compared_above (left_turn (own_edge c.args.previous.now, own_edge c.args.next.now))
    (sym (c.is_lt.ensures ∙ ap is_lt c.turn_between-turn.ensures) ∙ c.if-is_lt.false) in
    let faced = c.faced_side-faced.ensures.value ∙ ap (faced_side c.args.side) (sym c.is_lt.ensures ∙ c.if-is_lt.false) in
    c.add_facing-2.ensures.room few
    (rw faced
    (room_here g.I.IntNumber.unit (g.I.IntNumber.value c.args.radius) c.args.side c.args.self.now
    c.args.previous.now c.args.next.now (length c.args.segments.now.items) (vec_capacity c.args.segments.now) left room))
