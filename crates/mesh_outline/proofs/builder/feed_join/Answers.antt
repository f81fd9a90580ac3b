-- An outer corner adds its join, an inner one the edges to the vertex and from there.
use Rattle.std.proofs.Common.{refl}
use Rattle.std.specs.Prelude.{vec_capacity}
use Rattle.std.proofs.lemmas.Bool.{false≢true}
use Rattle.mesh_join.specs.Styles.{OffsetJoin}
use Rattle.mesh_offset.proofs.Adding.{on_ok_then}
use Rattle.mesh_outline.proofs.Steps.{outer_added, inner_added, inner_room_first, inner_room_last}
use Rattle.mesh_outline.proofs.builder.feed_join.Goals as goal

pub returns-then-is_outer-clause-ok : goal.returns-then-is_outer-clause-ok
returns-then-is_outer-clause-ok g c =
    let style : OffsetJoin = record { offset = g.I.IntNumber.value c.args.offset; join = c.args.join.now } in
    on_ok_then c.add_join.result c.add_join.ensures.ok
    (outer_added g.I.IntNumber.unit style (c.args.previous.now, c.args.next.now) c.is_outer.result c.args.segments.now.items _ c.is_outer.ensures c.if-is_outer.true)

pub returns-in_err-push_non_degenerate-clause-room : goal.returns-in_err-push_non_degenerate-clause-room
returns-in_err-push_non_degenerate-clause-room g c few room =
    let style : OffsetJoin = record { offset = g.I.IntNumber.value c.args.offset; join = c.args.join.now } in
    absurd (false≢true (c.in_err-push_non_degenerate.ensures.room
    (inner_room_first g.I.IntNumber.unit style _ c.args.next.now (c.args.previous.now, c.args.next.now) c.is_outer.result c.previous.view_is refl c.is_outer.ensures c.if-is_outer.false
    _ (vec_capacity c.args.segments.now) room)))

pub returns-clause-ok : goal.returns-clause-ok
returns-clause-ok g c =
    let style : OffsetJoin = record { offset = g.I.IntNumber.value c.args.offset; join = c.args.join.now } in
    on_ok_then c.push_non_degenerate-2.result c.push_non_degenerate-2.ensures.ok
    (inner_added g.I.IntNumber.unit style _ _ (c.args.previous.now, c.args.next.now) c.is_outer.result c.previous.view_is c.next.view_is c.is_outer.ensures c.if-is_outer.false
    c.args.segments.now.items c.push_non_degenerate.new.self.items _ c.in_ok-push_non_degenerate.ensures.ok)

pub returns-clause-room : goal.returns-clause-room
returns-clause-room g c few room =
    let style : OffsetJoin = record { offset = g.I.IntNumber.value c.args.offset; join = c.args.join.now } in
    c.push_non_degenerate-2.ensures.room
    (inner_room_last g.I.IntNumber.unit style _ _ (c.args.previous.now, c.args.next.now) c.is_outer.result c.previous.view_is c.next.view_is c.is_outer.ensures c.if-is_outer.false
    c.args.segments.now.items c.push_non_degenerate.new.self.items (vec_capacity c.args.segments.now) _ c.in_ok-push_non_degenerate.ensures.ok c.push_non_degenerate.ensures.capacity room)
