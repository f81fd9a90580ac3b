-- The joint is as joins ask, and its edges are those of the corner.
use Rattle.std.proofs.Common.{◌≡◌, ◌≤◌, ◌^◌, ap, subst, sym, [], rules}
use Rattle.std.specs.Prelude.{unsigned_abs, pos, ◌≤ℤ◌}
use Rattle.std.proofs.lemmas.Int.{to_z-of_z}
use mir.Syntax.{w128}
use Rattle.mesh_plane.specs.Plane.{Edge}
use Rattle.mesh_num.specs.Rectangle.{IsSafeWidened}
use Rattle.mesh_num.specs.Segments.{edges_of, proper_edges}
use Rattle.mesh_stroke.specs.Strokes.{outer_edges}
use Rattle.mesh_inner.specs.Private.Walks.{IsLimit}
use Rattle.mesh_inner.specs.Room.{FansHaveRoom}
use Rattle.mesh_offset.proofs.Padding.{between_safe, beside_safe}
use Rattle.mesh_inner.proofs.Joints.{joint_is, joint_met, join_drawn}
use Rattle.mesh_inner.proofs.joint.with_facing.Goals as goal

pub heading-incoming-requires-clause-safe : goal.heading-incoming-requires-clause-safe
heading-incoming-requires-clause-safe g c =
    between_safe g.I.IntNumber.unit (unsigned_abs (g.I.IntNumber.value c.args.radius)) c.args.before.0 c.args.before.1
    c.requires.corner.before.safe_start c.requires.corner.before.safe_end

pub heading-outgoing-requires-clause-safe : goal.heading-outgoing-requires-clause-safe
heading-outgoing-requires-clause-safe g c =
    between_safe g.I.IntNumber.unit (unsigned_abs (g.I.IntNumber.value c.args.radius)) c.args.after.0 c.args.after.1
    c.requires.corner.after.safe_start c.requires.corner.after.safe_end

pub moved_right-requires : goal.moved_right-requires
moved_right-requires g c =
    beside_safe g.I.IntNumber.unit (unsigned_abs (g.I.IntNumber.value c.args.radius)) c.before-2.inside.end c.scale.result
    (subst (λ (e : Edge). IsSafeWidened g.I.IntNumber.unit (pos (unsigned_abs (g.I.IntNumber.value c.args.radius))) e.1) (sym c.before-2.view_is) c.requires.corner.before.safe_end)
    c.scale.ensures.x_bound c.scale.ensures.y_bound

pub moved_right-requires-2 : goal.moved_right-requires-2
moved_right-requires-2 g c =
    beside_safe g.I.IntNumber.unit (unsigned_abs (g.I.IntNumber.value c.args.radius)) c.after.inside.start c.scale-2.result
    (subst (λ (e : Edge). IsSafeWidened g.I.IntNumber.unit (pos (unsigned_abs (g.I.IntNumber.value c.args.radius))) e.0) (sym c.after.view_is) c.requires.corner.after.safe_start)
    c.scale-2.ensures.x_bound c.scale-2.ensures.y_bound

pub add-requires : goal.add-requires
add-requires g c =
    let least : 2 ^ 14 ≤ g.I.IntNumber.unit = g.met.I.IntNumber.least_law in
    joint_met g.I.IntNumber.unit (g.I.IntNumber.value c.args.radius) c.args.join.now (c.args.before, c.args.after) _ least c.requires.corner c.requires.facing
    (joint_is g.I.IntNumber.unit (g.I.IntNumber.value c.args.radius) c.args.before c.args.after c.before-2.inside.end c.after.inside.start
    c.moved_right.result c.moved_right-2.result c.heading-incoming.result c.heading-outgoing.result c.scale.result c.scale-2.result
    (ap (λ (e : Edge). e.1) c.before-2.view_is) (ap (λ (e : Edge). e.0) c.after.view_is) c.heading-incoming.ensures c.heading-outgoing.ensures
    c.scale.ensures.value c.scale-2.ensures.value c.moved_right.ensures c.moved_right-2.ensures)

pub returns-clause-limit : goal.returns-clause-limit
returns-clause-limit g c =
    let center : c.before-2.inside.end ≡ c.args.before.1 = ap (λ (e : Edge). e.1) c.before-2.view_is in
    let none : c.clear.new.self.items ≡ [] = search rules in
    let edges : edges_of c.add.new.segments.items ≡ proper_edges (outer_edges g.I.IntNumber.unit (g.I.IntNumber.value c.args.radius) c.args.join.now (c.args.before, c.args.after)) =
    join_drawn g.I.IntNumber.unit (g.I.IntNumber.value c.args.radius) c.args.join.now (c.args.before, c.args.after) _ _ c.add.new.segments.items none
    (joint_is g.I.IntNumber.unit (g.I.IntNumber.value c.args.radius) c.args.before c.args.after c.before-2.inside.end c.after.inside.start
    c.moved_right.result c.moved_right-2.result c.heading-incoming.result c.heading-outgoing.result c.scale.result c.scale-2.result
    center (ap (λ (e : Edge). e.0) c.after.view_is) c.heading-incoming.ensures c.heading-outgoing.ensures
    c.scale.ensures.value c.scale-2.ensures.value c.moved_right.ensures c.moved_right-2.ensures) c.in_ok-add.ensures.edges in
    let same : c.deref.result.now ≡ c.add.new.segments.items = search rules in
    let limit : IsLimit c.with_fan.result (λ t. (pos t ≤ℤ c.args.limit) × FansHaveRoom t c.args.before.1 (proper_edges (outer_edges g.I.IntNumber.unit (g.I.IntNumber.value c.args.radius) c.args.join.now (c.args.before, c.args.after)))) =
    rw (← edges, ← same, ← center, ← to_z-of_z w128 c.args.limit c.ranges.limit) c.with_fan.ensures in
    rw (to_z-of_z w128 c.with_fan.result (record { sfits = c.with_fan.type_inv })) limit
