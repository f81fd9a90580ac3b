use Rattle.std.proofs.Common.{◌≡◌, ◌∙◌, sym}
use Rattle.std.proofs.lemmas.Bool.{both_ways}
use Rattle.mesh_plane.specs.Order.{point_lt}
use Rattle.mesh_plane.specs.Winding.{same_point}
use Rattle.mesh_shapes.specs.Private.Progress.{point_at}
use Rattle.mesh_shapes.proofs.ContoursBegun.{visit_same, visit_better}
use Rattle.mesh_shapes.proofs.ring.better_visit.Goals as goal
use Rattle.mesh_plane.proofs.Comparing.{decides_point}

pub returns-then-not-same_point : goal.returns-then-not-same_point
returns-then-not-same_point c =
    let ps = c.args.contour.now in
    visit_same c.args.all ps c.args.i c.args.best c.requires.known
    (λ (e : point_at ps c.args.i ≡ point_at ps 0).
    absurd (both_ways (same_point (point_at ps c.args.i) (point_at ps 0)) (sym c.same_point.ensures ∙ c.if-not-same_point.true) ((decides_point (point_at ps c.args.i) (point_at ps 0)).1 e)))

pub returns-then-is_before : goal.returns-then-is_before
returns-then-is_before c =
    let ps = c.args.contour.now in
    visit_better c.args.all ps c.args.i c.args.best c.requires.in_range c.requires.known
    ((decides_point (point_at ps c.args.i) (point_at ps 0)).0 (sym c.same_point.ensures ∙ c.if-not-same_point.false))
    ((λ j. point_lt (sym c.next_vertex.ensures j) (sym c.next_vertex-2.ensures j)) ∙ (sym c.is_before.ensures ∙ c.if-is_before.true))

pub returns : goal.returns
returns c =
    let ps = c.args.contour.now in
    visit_same c.args.all ps c.args.i c.args.best c.requires.known
    (λ (e : point_at ps c.args.i ≡ point_at ps 0).
    (λ j. point_lt (sym c.next_vertex.ensures j) (sym c.next_vertex-2.ensures j)) ∙ (sym c.is_before.ensures ∙ c.if-is_before.false))
