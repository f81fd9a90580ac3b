-- What the walk adds, and that it can go on.
use Rattle.std.proofs.Common.{◌+◌, ◌≤◌, ◌++◌, length, refl, sym, subst, ◌∙◌, ap}
use Rattle.std.specs.Prelude.{vec_capacity}
use Rattle.std.proofs.lemmas.Bool.{false≢true}
use Rattle.mesh_join.specs.Styles.{OffsetJoin}
use Rattle.mesh_outline.specs.Outline.{Section}
use Rattle.mesh_outline.proofs.BuilderRoom.{room_first, room_step, room_last}
use Rattle.mesh_join.specs.Cleaned.{cleaned_sections}
use Rattle.mesh_join.proofs.CleaningSteps.{cleaned-none}
use Rattle.mesh_outline.specs.Private.Sections.{top_segments}
use Rattle.mesh_outline.proofs.Padding.{movable_within}
use Rattle.mesh_outline.proofs.BuilderWalk.{none_adds, first_fits, walk_continues, walk_starts, walk_ends}
use Rattle.mesh_offset.proofs.Adding.{keeps_added, on_ok_then}
use Rattle.mesh_outline.proofs.builder.draw.Goals as goal

pub returns-in_default-clause-ok : goal.returns-in_default-clause-ok
returns-in_default-clause-ok g c =
    none_adds g.I.IntNumber.unit (record { offset = g.I.IntNumber.value c.args.offset; join = c.args.join.now }) (cleaned_sections c.args.path.now) c.args.segments.now.items (cleaned-none c.args.path.now c.in_default.ensures.sections)

pub new-first-requires-clause-differ : goal.new-first-requires-clause-differ
new-first-requires-clause-differ g c =
    let s = c.in-Some.ensures.sections.1 in
    (first_fits g.I.IntNumber.unit (record { offset = g.I.IntNumber.value c.args.offset; join = c.args.join.now }) c.args.path.now _ c.next.new.self c.requires (sym s ∙ c.in-Some-next.ensures.steps) (rw s at c.in-Some.ensures.clean)).differ

pub new-first-requires-clause-safe_a : goal.new-first-requires-clause-safe_a
new-first-requires-clause-safe_a g c =
    let s = c.in-Some.ensures.sections.1 in
    movable_within g.I.IntNumber.unit (record { offset = g.I.IntNumber.value c.args.offset; join = c.args.join.now }) _
    (first_fits g.I.IntNumber.unit (record { offset = g.I.IntNumber.value c.args.offset; join = c.args.join.now }) c.args.path.now _ c.next.new.self c.requires (sym s ∙ c.in-Some-next.ensures.steps) (rw s at c.in-Some.ensures.clean)).safe_a

pub new-first-requires-clause-safe_b : goal.new-first-requires-clause-safe_b
new-first-requires-clause-safe_b g c =
    let s = c.in-Some.ensures.sections.1 in
    movable_within g.I.IntNumber.unit (record { offset = g.I.IntNumber.value c.args.offset; join = c.args.join.now }) _
    (first_fits g.I.IntNumber.unit (record { offset = g.I.IntNumber.value c.args.offset; join = c.args.join.now }) c.args.path.now _ c.next.new.self c.requires (sym s ∙ c.in-Some-next.ensures.steps) (rw s at c.in-Some.ensures.clean)).safe_b

pub loop-segment-init : goal.loop-segment-init
loop-segment-init g c =
    let s = c.in-Some.ensures.sections.1 in
    let pushed = c.in_ok-push_non_degenerate.ensures.ok in
    record {
      todo =
          rw c.into_iter-segment-iterator.ensures.into_iter_gives
          (walk_starts g.I.IntNumber.unit (record { offset = g.I.IntNumber.value c.args.offset; join = c.args.join.now }) (cleaned_sections c.args.path.now) _ c.next.new.self c.new-first.result
          c.args.segments.now.items c.push_non_degenerate.new.self.items (sym s ∙ c.in-Some-next.ensures.steps) c.new-first.ensures (pushed ∙ ap (λ l. c.args.segments.now.items ++ l) (ap top_segments c.first.view_is)));
      kept = keeps_added c.args.segments.now.items c.push_non_degenerate.new.self.items _ pushed;
      going =
          rw c.into_iter-segment-iterator.ensures.into_iter_gives
          (walk_continues g.I.IntNumber.unit (record { offset = g.I.IntNumber.value c.args.offset; join = c.args.join.now }) c.args.path.now _ c.next.new.self c.new-first.result c.new-first.ensures c.requires
          (sym s ∙ c.in-Some-next.ensures.steps) (rw s at c.in-Some.ensures.clean));
      room = c.push_non_degenerate.ensures.capacity;
      same = refl;
    }

pub returns-clause-ok : goal.returns-clause-ok
returns-clause-ok g c =
    let s = c.in-Some.ensures.sections.1 in
    on_ok_then c.feed_join.result c.feed_join.ensures.ok
    (λ h. rw c.loop-segment.invariant.same at
    (walk_ends g.I.IntNumber.unit (record { offset = g.I.IntNumber.value c.args.offset; join = c.loop-segment.join }) (cleaned_sections c.args.path.now) _ c.next.new.self c.loop-segment.segment-iterator
    c.loop-segment.previous c.new-first.result c.args.segments.now.items c.loop-segment.segments.items c.feed_join.new.segments.items
    (sym s ∙ c.in-Some-next.ensures.steps) c.in-None.ensures.steps.0 c.loop-segment.invariant.todo h))

pub returns-in_err-push_non_degenerate-clause-room : goal.returns-in_err-push_non_degenerate-clause-room
returns-in_err-push_non_degenerate-clause-room g c few room =
    let s = c.in-Some.ensures.sections.1 in
    let style : OffsetJoin = record { offset = g.I.IntNumber.value c.args.offset; join = c.args.join.now } in
    let n = length c.args.segments.now.items in
    let cap = vec_capacity c.args.segments.now in
    let fits = room_first g.I.IntNumber.unit style (cleaned_sections c.args.path.now) _ c.next.new.self c.new-first.result n cap (sym s ∙ c.in-Some-next.ensures.steps) c.new-first.ensures room in
    absurd (false≢true (c.in_err-push_non_degenerate.ensures.room (subst (λ (x : Section). n + length (top_segments x) ≤ cap) (sym c.first.view_is) fits)))

pub returns-in_err-feed_section-clause-room : goal.returns-in_err-feed_section-clause-room
returns-in_err-feed_section-clause-room g c few room =
    let s = c.in-Some.ensures.sections.1 in
    let style : OffsetJoin = record { offset = g.I.IntNumber.value c.args.offset; join = c.loop-segment.join } in
    let whole = rw (sym c.loop-segment.invariant.same) at room in
    let fits = room_step g.I.IntNumber.unit style (cleaned_sections c.args.path.now) _ c.next.new.self c.loop-segment.segment-iterator c.next-in-loop-segment.new.self _
    c.loop-segment.previous c.new-next.result c.new-first.result c.args.segments.now.items c.loop-segment.segments.items (vec_capacity c.args.segments.now) (vec_capacity c.loop-segment.segments)
    (sym s ∙ c.in-Some-next.ensures.steps) c.in-Some-segment.ensures.steps c.new-next.ensures c.loop-segment.invariant.todo c.loop-segment.invariant.room whole in
    absurd (false≢true (c.in_err-feed_section.ensures.room (rw (sym c.loop-segment.invariant.same) at few) fits))

pub returns-clause-room : goal.returns-clause-room
returns-clause-room g c few room =
    let s = c.in-Some.ensures.sections.1 in
    let style : OffsetJoin = record { offset = g.I.IntNumber.value c.args.offset; join = c.loop-segment.join } in
    let whole = rw (sym c.loop-segment.invariant.same) at room in
    c.feed_join.ensures.room
    (rw (sym c.loop-segment.invariant.same) at few)
    (room_last g.I.IntNumber.unit style (cleaned_sections c.args.path.now) _ c.next.new.self c.loop-segment.segment-iterator
    c.loop-segment.previous c.new-first.result c.args.segments.now.items c.loop-segment.segments.items (vec_capacity c.args.segments.now) (vec_capacity c.loop-segment.segments)
    (sym s ∙ c.in-Some-next.ensures.steps) c.in-None.ensures.steps.0 c.loop-segment.invariant.todo c.loop-segment.invariant.room whole)
