-- A stroke of a radius of at most 1 has no edge.
use Rattle.std.proofs.Common.{◌+◌, ◌≤◌, List, length, subst, arith}
use Rattle.std.specs.Prelude.{vec_capacity, pos, ◌<ℤ◌}
use Rattle.std.proofs.lemmas.Int.{ints}
use Rattle.mesh_plane.specs.Plane.{Edge}
use Rattle.mesh_offset.proofs.Adding.{on_ok_then}
use Rattle.mesh_stroke.specs.Building.{style_with}
use Rattle.mesh_stroke.proofs.Promised.{thin_adds, thick_adds, thick_is, not_above}
use Rattle.mesh_stroke.proofs.builder.draw.Goals as goal

pub returns-then-is_drawn-clause-ok : goal.returns-then-is_drawn-clause-ok
returns-then-is_drawn-clause-ok g c =
    on_ok_then c.draw_path.result c.draw_path.ensures.ok
    (λ h. thick_adds g.I.IntNumber.unit g.met.I.IntNumber.least_law (style_with (g.I.IntNumber.value c.args.radius) c.args.side c.args.join.now c.args.caps.now) c.args.closed c.args.path.now
    c.args.segments.now.items c.draw_path.new.segments.items (c.is_drawn.ensures.0 c.if-is_drawn.true) h)

pub returns-clause-ok : goal.returns-clause-ok
returns-clause-ok g c =
    thin_adds g.I.IntNumber.unit g.met.I.IntNumber.least_law (style_with (g.I.IntNumber.value c.args.radius) c.args.side c.args.join.now c.args.caps.now) c.args.closed c.args.path.now
    c.args.segments.now.items (not_above c.is_drawn.result (g.I.IntNumber.value c.args.radius) c.is_drawn.ensures c.if-is_drawn.false)

pub returns-then-is_drawn-clause-thin : goal.returns-then-is_drawn-clause-thin
returns-then-is_drawn-clause-thin g c low =
    let above : pos 1 <ℤ g.I.IntNumber.value c.args.radius = c.is_drawn.ensures.0 c.if-is_drawn.true in
    absurd (omega (arith, ints, low, above))

pub returns-then-is_drawn-clause-room : goal.returns-then-is_drawn-clause-room
returns-then-is_drawn-clause-room g c few direct room =
    c.draw_path.ensures.room few direct
    (subst (λ (es : List Edge). length c.args.segments.now.items + length es ≤ vec_capacity c.args.segments.now)
    (thick_is g.I.IntNumber.unit g.met.I.IntNumber.least_law (style_with (g.I.IntNumber.value c.args.radius) c.args.side c.args.join.now c.args.caps.now) c.args.closed c.args.path.now
    (c.is_drawn.ensures.0 c.if-is_drawn.true)) room)
