-- The corner's edges were added, and then the sides.
use Rattle.std.proofs.Common.{length}
use Rattle.std.specs.Prelude.{vec_capacity}
use Rattle.std.proofs.lemmas.Bool.{false≢true}
use Rattle.mesh_offset.proofs.Adding.{on_ok_then}
use Rattle.mesh_stroke.specs.Private.Sections.{own_edge}
use Rattle.mesh_stroke.specs.Strokes.{corner_edges, side_edges}
use Rattle.mesh_stroke.proofs.Fitting.{first_edges_fit, other_edges_fit}
use Rattle.mesh_stroke.proofs.builder.add_section.Goals as goal
use Rattle.mesh_join.proofs.Drawing.{appends_both}

pub returns-clause-ok : goal.returns-clause-ok
returns-clause-ok g c =
    on_ok_then c.add.result (c.add.ensures.ok (g.I.IntNumber.value c.args.radius) c.requires.next)
    (λ h. appends_both c.args.segments.now.items c.add_join.new.segments.items c.add.new.segments.items
    (corner_edges g.I.IntNumber.unit (g.I.IntNumber.value c.args.radius) c.args.side c.args.join.now (own_edge c.args.previous.now, own_edge c.args.next.now))
    (side_edges g.I.IntNumber.unit (g.I.IntNumber.value c.args.radius) c.args.side (own_edge c.args.next.now)) c.in_ok-add_join.ensures.ok h)

pub returns-in_err-add_join-clause-room : goal.returns-in_err-add_join-clause-room
returns-in_err-add_join-clause-room g c few room =
    absurd (false≢true (c.in_err-add_join.ensures.room few
    (first_edges_fit
    (corner_edges g.I.IntNumber.unit (g.I.IntNumber.value c.args.radius) c.args.side c.args.join.now (own_edge c.args.previous.now, own_edge c.args.next.now))
    (side_edges g.I.IntNumber.unit (g.I.IntNumber.value c.args.radius) c.args.side (own_edge c.args.next.now))
    (length c.args.segments.now.items) (vec_capacity c.args.segments.now) room)))

pub returns-clause-room : goal.returns-clause-room
returns-clause-room g c few room =
    c.add.ensures.room (g.I.IntNumber.value c.args.radius) c.requires.next
    (other_edges_fit
    (corner_edges g.I.IntNumber.unit (g.I.IntNumber.value c.args.radius) c.args.side c.args.join.now (own_edge c.args.previous.now, own_edge c.args.next.now))
    (side_edges g.I.IntNumber.unit (g.I.IntNumber.value c.args.radius) c.args.side (own_edge c.args.next.now))
    c.args.segments.now.items c.add_join.new.segments.items (vec_capacity c.args.segments.now) (vec_capacity c.add_join.new.segments)
    c.in_ok-add_join.ensures.ok c.in_ok-add_join.ensures.capacity room)
