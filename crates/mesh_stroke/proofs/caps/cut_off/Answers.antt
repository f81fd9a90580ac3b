-- The straight ends are what their definition says.
use Rattle.std.proofs.Common.{◌+◌, ◌≤◌, ◌++◌, List, length, sym, subst, ◌∙◌, ap}
use Rattle.std.specs.Prelude.{vec_capacity}
use Rattle.mesh_plane.specs.Plane.{Edge}
use Rattle.mesh_num.specs.Segments.{segments_of}
use Rattle.mesh_offset.proofs.Adding.{on_ok_then}
use Rattle.mesh_stroke.proofs.Fitting.{two_added, two_second}
use Rattle.mesh_stroke.proofs.Sections.{ends_pushed}
use Rattle.mesh_stroke.proofs.caps.cut_off.Goals as goal

pub returns-clause-ok : goal.returns-clause-ok
returns-clause-ok g c radius made_first made_last =
    let ends =
    ends_pushed g.I.IntNumber.unit radius c.args.side c.args.first.now c.args.last.now _ _ made_first made_last
    (c.first.view_is ∙ c.on_side-first.ensures) (c.last.view_is ∙ c.on_side-last.ensures) in
    on_ok_then c.push_non_degenerate-2.result c.push_non_degenerate-2.ensures.ok
    (λ h. two_added c.first.inside.a_left c.first.inside.a_right c.last.inside.b_right c.last.inside.b_left
    c.args.segments.now.items c.push_non_degenerate.new.self.items c.push_non_degenerate-2.new.self.items
    c.in_ok-push_non_degenerate.ensures.ok h
    ∙ ap (λ (es : List Edge). c.args.segments.now.items ++ segments_of es) (sym ends))

pub returns-clause-room : goal.returns-clause-room
returns-clause-room g c radius made_first made_last room =
    let ends =
    ends_pushed g.I.IntNumber.unit radius c.args.side c.args.first.now c.args.last.now _ _ made_first made_last
    (c.first.view_is ∙ c.on_side-first.ensures) (c.last.view_is ∙ c.on_side-last.ensures) in
    c.push_non_degenerate-2.ensures.room
    (two_second c.first.inside.a_left c.first.inside.a_right c.last.inside.b_right c.last.inside.b_left
    c.args.segments.now.items c.push_non_degenerate.new.self.items (vec_capacity c.args.segments.now)
    (vec_capacity c.push_non_degenerate.new.self) c.in_ok-push_non_degenerate.ensures.ok
    c.in_ok-push_non_degenerate.ensures.capacity
    (subst (λ (es : List Edge). length c.args.segments.now.items + length (segments_of es)
    ≤ vec_capacity c.args.segments.now) ends room))
