-- What the walk adds, and that it can go on.
use Rattle.std.proofs.Common.{length, refl, sym, subst, ◌∙◌, arith}
use Rattle.std.specs.Prelude.{vec_capacity}
use Rattle.std.proofs.lemmas.Bool.{false≢true}
use Rattle.mesh_offset.proofs.Adding.{keeps_through, on_ok_then}
use Rattle.mesh_join.specs.Styles.{JoinStyle}
use Rattle.mesh_stroke.specs.Building.{style_with}
use Rattle.mesh_stroke.specs.Private.Sections.{IsCorner}
use Rattle.mesh_stroke.specs.Paths.{path_edges}
use Rattle.mesh_stroke.specs.Styles.{StrokeStyle}
use Rattle.mesh_stroke.proofs.BuilderWalk.{no_points, none_adds, fit_made, fit_radius}
use Rattle.mesh_stroke.proofs.Standing.{first_fits, stands_first, next_fits, next_corner, stands_next, last_corner, both_ends, ends_closed, ends_open}
use Rattle.mesh_stroke.proofs.BuilderRoom.{direct_caps, room_first, room_step, room_closed, room_open}
use Rattle.mesh_stroke.proofs.builder.draw_path.Goals as goal

pub returns-in_default-clause-ok : goal.returns-in_default-clause-ok
returns-in_default-clause-ok g c =
    none_adds g.I.IntNumber.unit (style_with (g.I.IntNumber.value c.args.radius) c.args.side c.args.join.now c.args.caps.now) c.args.closed
    (path_edges c.args.closed c.args.path.now) c.args.segments.now.items (no_points c.args.closed c.args.path.now c.in_default.ensures)

pub returns-in_default-next-clause-ok : goal.returns-in_default-next-clause-ok
returns-in_default-next-clause-ok g c =
    none_adds g.I.IntNumber.unit (style_with (g.I.IntNumber.value c.args.radius) c.args.side c.args.join.now c.args.caps.now) c.args.closed
    (path_edges c.args.closed c.args.path.now) c.args.segments.now.items (sym c.in-Some.ensures ∙ c.in_default-next.ensures.steps.0)

pub new-first-requires-clause-differ : goal.new-first-requires-clause-differ
new-first-requires-clause-differ g c =
    (first_fits g.I.IntNumber.unit (style_with (g.I.IntNumber.value c.args.radius) c.args.side c.args.join.now c.args.caps.now) c.args.closed c.args.path.now
    _ c.next.new.self c.requires.path (sym c.in-Some.ensures ∙ c.in-Some-next.ensures.steps)).differ

pub new-first-requires-clause-safe_a : goal.new-first-requires-clause-safe_a
new-first-requires-clause-safe_a g c =
    let style : StrokeStyle = style_with (g.I.IntNumber.value c.args.radius) c.args.side c.args.join.now c.args.caps.now in
    fit_radius g.I.IntNumber.unit style _
    (first_fits g.I.IntNumber.unit style c.args.closed c.args.path.now _ c.next.new.self c.requires.path (sym c.in-Some.ensures ∙ c.in-Some-next.ensures.steps)).safe_a

pub new-first-requires-clause-safe_b : goal.new-first-requires-clause-safe_b
new-first-requires-clause-safe_b g c =
    let style : StrokeStyle = style_with (g.I.IntNumber.value c.args.radius) c.args.side c.args.join.now c.args.caps.now in
    fit_radius g.I.IntNumber.unit style _
    (first_fits g.I.IntNumber.unit style c.args.closed c.args.path.now _ c.next.new.self c.requires.path (sym c.in-Some.ensures ∙ c.in-Some-next.ensures.steps)).safe_b

pub loop-edge-init : goal.loop-edge-init
loop-edge-init g c =
    let style : StrokeStyle = style_with (g.I.IntNumber.value c.args.radius) c.args.side c.args.join.now c.args.caps.now in
    let walk = sym c.in-Some.ensures ∙ c.in-Some-next.ensures.steps in
    let fit = first_fits g.I.IntNumber.unit style c.args.closed c.args.path.now _ c.next.new.self c.requires.path walk in
    let made = fit_made g.I.IntNumber.unit style c.new-first.result _ c.new-first.ensures fit in
    record {
      stands =
          rw c.into_iter-edge-iterator.ensures.into_iter_gives
          (stands_first g.I.IntNumber.unit style c.args.closed c.args.path.now _ c.next.new.self c.new-first.result c.args.segments.now.items c.add.new.segments.items
          c.requires.path walk c.new-first.ensures (c.in_ok-add.ensures.ok (g.I.IntNumber.value c.args.radius) made));
      kept = c.add.ensures.kept;
      room = c.add.ensures.capacity;
      same = refl;
    }

pub new-next-requires-clause-safe_a : goal.new-next-requires-clause-safe_a
new-next-requires-clause-safe_a g c =
    let style : StrokeStyle = style_with (g.I.IntNumber.value c.args.radius) c.args.side c.args.join.now c.args.caps.now in
    fit_radius g.I.IntNumber.unit style _
    (next_fits g.I.IntNumber.unit style c.args.closed c.args.path.now c.args.segments.now.items c.loop-edge.segments.items c.new-first.result c.loop-edge.previous c.loop-edge.edge-iterator
    c.loop-edge.invariant.stands _ c.next-in-loop-edge.new.self c.in-Some-edge.ensures.steps).safe_a

pub new-next-requires-clause-safe_b : goal.new-next-requires-clause-safe_b
new-next-requires-clause-safe_b g c =
    let style : StrokeStyle = style_with (g.I.IntNumber.value c.args.radius) c.args.side c.args.join.now c.args.caps.now in
    fit_radius g.I.IntNumber.unit style _
    (next_fits g.I.IntNumber.unit style c.args.closed c.args.path.now c.args.segments.now.items c.loop-edge.segments.items c.new-first.result c.loop-edge.previous c.loop-edge.edge-iterator
    c.loop-edge.invariant.stands _ c.next-in-loop-edge.new.self c.in-Some-edge.ensures.steps).safe_b

pub new-next-requires-clause-differ : goal.new-next-requires-clause-differ
new-next-requires-clause-differ g c =
    (next_fits g.I.IntNumber.unit (style_with (g.I.IntNumber.value c.args.radius) c.args.side c.args.join.now c.args.caps.now) c.args.closed c.args.path.now
    c.args.segments.now.items c.loop-edge.segments.items c.new-first.result c.loop-edge.previous c.loop-edge.edge-iterator
    c.loop-edge.invariant.stands _ c.next-in-loop-edge.new.self c.in-Some-edge.ensures.steps).differ

pub add_section-requires : goal.add_section-requires
add_section-requires g c =
    let style : StrokeStyle = style_with (g.I.IntNumber.value c.args.radius) c.args.side c.args.join.now c.args.caps.now in
    subst (λ (join : JoinStyle). IsCorner g.I.IntNumber.unit (g.I.IntNumber.value c.args.radius) join (c.loop-edge.previous, c.new-next.result)) (sym c.loop-edge.invariant.same)
    (next_corner g.I.IntNumber.unit style c.args.closed c.args.path.now c.args.segments.now.items c.loop-edge.segments.items c.new-first.result c.loop-edge.previous c.loop-edge.edge-iterator
    c.loop-edge.invariant.stands c.requires.radius _ c.next-in-loop-edge.new.self c.new-next.result c.in-Some-edge.ensures.steps c.new-next.ensures)

pub loop-edge-preserved : goal.loop-edge-preserved
loop-edge-preserved g c =
    let style : StrokeStyle = style_with (g.I.IntNumber.value c.args.radius) c.args.side c.args.join.now c.args.caps.now in
    let added = rw c.loop-edge.invariant.same at c.in_ok-add_section.ensures.ok in
    record {
      stands =
          stands_next g.I.IntNumber.unit style c.args.closed c.args.path.now c.args.segments.now.items c.loop-edge.segments.items c.new-first.result c.loop-edge.previous c.loop-edge.edge-iterator
          c.loop-edge.invariant.stands _ c.next-in-loop-edge.new.self c.new-next.result c.add_section.new.segments.items c.in-Some-edge.ensures.steps c.new-next.ensures added;
      kept = keeps_through c.args.segments.now.items c.loop-edge.segments.items c.add_section.new.segments.items c.loop-edge.invariant.kept c.add_section.ensures.kept;
      room = omega (arith, c.loop-edge.invariant.room, c.add_section.ensures.capacity);
      same = c.add_section.ensures.same ∙ c.loop-edge.invariant.same;
    }

pub add_join-requires : goal.add_join-requires
add_join-requires g c =
    let style : StrokeStyle = style_with (g.I.IntNumber.value c.args.radius) c.args.side c.args.join.now c.args.caps.now in
    subst (λ (join : JoinStyle). IsCorner g.I.IntNumber.unit (g.I.IntNumber.value c.args.radius) join (c.loop-edge.previous, c.new-first.result)) (sym c.loop-edge.invariant.same)
    (last_corner g.I.IntNumber.unit style c.args.closed c.args.path.now c.args.segments.now.items c.loop-edge.segments.items c.new-first.result c.loop-edge.previous c.loop-edge.edge-iterator
    c.loop-edge.invariant.stands c.requires.radius c.in-None.ensures.steps.0 c.if-closed.true)

pub returns-then-closed-clause-ok : goal.returns-then-closed-clause-ok
returns-then-closed-clause-ok g c =
    let style : StrokeStyle = style_with (g.I.IntNumber.value c.args.radius) c.args.side c.args.join.now c.args.caps.now in
    on_ok_then c.add_join.result c.add_join.ensures.ok
    (λ h. ends_closed g.I.IntNumber.unit style c.args.closed c.args.path.now c.args.segments.now.items c.loop-edge.segments.items c.new-first.result c.loop-edge.previous c.loop-edge.edge-iterator
    c.loop-edge.invariant.stands _ c.next.new.self c.add_join.new.segments.items (sym c.in-Some.ensures ∙ c.in-Some-next.ensures.steps) c.in-None.ensures.steps.0 c.if-closed.true
    (rw c.loop-edge.invariant.same at h))

pub add_ends-requires : goal.add_ends-requires
add_ends-requires g c =
    both_ends g.I.IntNumber.unit (style_with (g.I.IntNumber.value c.args.radius) c.args.side c.args.join.now c.args.caps.now) c.args.closed c.args.path.now
    c.args.segments.now.items c.loop-edge.segments.items c.new-first.result c.loop-edge.previous c.loop-edge.edge-iterator c.loop-edge.invariant.stands c.requires.radius

pub returns-clause-ok : goal.returns-clause-ok
returns-clause-ok g c =
    let style : StrokeStyle = style_with (g.I.IntNumber.value c.args.radius) c.args.side c.args.join.now c.args.caps.now in
    on_ok_then c.add_ends.result c.add_ends.ensures.ok
    (λ h. ends_open g.I.IntNumber.unit style c.args.closed c.args.path.now c.args.segments.now.items c.loop-edge.segments.items c.new-first.result c.loop-edge.previous c.loop-edge.edge-iterator
    c.loop-edge.invariant.stands _ c.next.new.self c.add_ends.new.segments.items (sym c.in-Some.ensures ∙ c.in-Some-next.ensures.steps) c.in-None.ensures.steps.0 c.if-closed.false h)

-- a path with an edge has an edge
pub returns-in_err-add-clause-no_section : goal.returns-in_err-add-clause-no_section
returns-in_err-add-clause-no_section g c none =
    let walk = sym c.in-Some.ensures ∙ c.in-Some-next.ensures.steps in
    cc

pub returns-in_err-add_section-clause-no_section : goal.returns-in_err-add_section-clause-no_section
returns-in_err-add_section-clause-no_section g c none =
    let walk = sym c.in-Some.ensures ∙ c.in-Some-next.ensures.steps in
    cc

pub returns-then-closed-clause-no_section : goal.returns-then-closed-clause-no_section
returns-then-closed-clause-no_section g c none =
    let walk = sym c.in-Some.ensures ∙ c.in-Some-next.ensures.steps in
    cc

pub returns-clause-no_section : goal.returns-clause-no_section
returns-clause-no_section g c none =
    let walk = sym c.in-Some.ensures ∙ c.in-Some-next.ensures.steps in
    cc

pub returns-in_err-add-clause-room : goal.returns-in_err-add-clause-room
returns-in_err-add-clause-room g c few direct room =
    let style : StrokeStyle = style_with (g.I.IntNumber.value c.args.radius) c.args.side c.args.join.now c.args.caps.now in
    let walk = sym c.in-Some.ensures ∙ c.in-Some-next.ensures.steps in
    let fit = first_fits g.I.IntNumber.unit style c.args.closed c.args.path.now _ c.next.new.self c.requires.path walk in
    let made = fit_made g.I.IntNumber.unit style c.new-first.result _ c.new-first.ensures fit in
    absurd (false≢true (c.in_err-add.ensures.room (g.I.IntNumber.value c.args.radius) made
    (room_first g.I.IntNumber.unit style c.args.closed (path_edges c.args.closed c.args.path.now) _ c.next.new.self c.new-first.result
    (length c.args.segments.now.items) (vec_capacity c.args.segments.now) walk c.new-first.ensures room)))

pub returns-in_err-add_section-clause-room : goal.returns-in_err-add_section-clause-room
returns-in_err-add_section-clause-room g c few direct room =
    let style : StrokeStyle = style_with (g.I.IntNumber.value c.args.radius) c.args.side c.args.join.now c.args.caps.now in
    let walk = sym c.in-Some.ensures ∙ c.in-Some-next.ensures.steps in
    let fits =
    room_step g.I.IntNumber.unit style c.args.closed (path_edges c.args.closed c.args.path.now) _ c.next.new.self walk
    c.args.segments.now.items c.loop-edge.segments.items c.new-first.result c.loop-edge.previous c.loop-edge.edge-iterator c.loop-edge.invariant.stands
    (vec_capacity c.args.segments.now) (vec_capacity c.loop-edge.segments) c.loop-edge.invariant.room room
    _ c.next-in-loop-edge.new.self c.new-next.result c.in-Some-edge.ensures.steps c.new-next.ensures in
    absurd (false≢true ((rw c.loop-edge.invariant.same at c.in_err-add_section.ensures.room) few fits))

pub returns-then-closed-clause-room : goal.returns-then-closed-clause-room
returns-then-closed-clause-room g c few direct room =
    let style : StrokeStyle = style_with (g.I.IntNumber.value c.args.radius) c.args.side c.args.join.now c.args.caps.now in
    let walk = sym c.in-Some.ensures ∙ c.in-Some-next.ensures.steps in
    (rw c.loop-edge.invariant.same at c.add_join.ensures.room) few
    (room_closed g.I.IntNumber.unit style c.args.closed (path_edges c.args.closed c.args.path.now) _ c.next.new.self walk
    c.args.segments.now.items c.loop-edge.segments.items c.new-first.result c.loop-edge.previous c.loop-edge.edge-iterator c.loop-edge.invariant.stands
    (vec_capacity c.args.segments.now) (vec_capacity c.loop-edge.segments) c.loop-edge.invariant.room room
    c.in-None.ensures.steps.0 c.if-closed.true)

pub returns-clause-room : goal.returns-clause-room
returns-clause-room g c few direct room =
    let style : StrokeStyle = style_with (g.I.IntNumber.value c.args.radius) c.args.side c.args.join.now c.args.caps.now in
    let walk = sym c.in-Some.ensures ∙ c.in-Some-next.ensures.steps in
    let both = direct_caps style c.args.closed c.if-closed.false direct in
    c.add_ends.ensures.room both.0 both.1
    (room_open g.I.IntNumber.unit style c.args.closed (path_edges c.args.closed c.args.path.now) _ c.next.new.self walk
    c.args.segments.now.items c.loop-edge.segments.items c.new-first.result c.loop-edge.previous c.loop-edge.edge-iterator c.loop-edge.invariant.stands
    (vec_capacity c.args.segments.now) (vec_capacity c.loop-edge.segments) c.loop-edge.invariant.room room
    c.in-None.ensures.steps.0 c.if-closed.false)
