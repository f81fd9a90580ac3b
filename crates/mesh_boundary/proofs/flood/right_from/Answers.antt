use Rattle.std.proofs.Common.{rules, ◌≡◌, sym, ◌∙◌, ap, subst}
use Rattle.std.specs.Prelude.{ℤ}
use mir.Syntax.{w128}
use mir.Val.{to_z, of_z}
use Rattle.mesh_plane.specs.Plane.{Point}
use Rattle.mesh_plane.proofs.Comparing.{decides_point}
use Rattle.mesh_lattice.specs.Boundary.{right_winding}
use Rattle.mesh_lattice.specs.Counted.{Counted}
use Rattle.mesh_boundary.specs.Private.Flood.{IsLevel, IsRight}
use Rattle.mesh_boundary.specs.Private.Stars.{leaving, IsSegment, IsStar}
use Rattle.mesh_boundary.proofs.Levels.{segment_leaving}
use Rattle.mesh_boundary.proofs.StarLists.{segment_at}
use Rattle.mesh_boundary.proofs.flood.right_from.Goals as goal

pub returns : goal.returns
returns c = λ es counts star level.
    let ks = c.args.segments.now in
    let x = c.args.x in
    let s : Counted = c.in_ok-s.s in
    let is : s ≡ leaving ks x = c.in_ok-s.ensures in
    let own = segment_at es ks x.0 counts c.requires in
    let away : IsSegment es s = subst (IsSegment es) (sym is) (segment_leaving es ks x own) in
    let at : c.args.l.0 ≡ s.0.0 = (decides_point c.args.l.0 s.0.0).0 (sym c.same_point.ensures ∙ c.if-not-same_point.false) in
    let w_kept : to_z w128 (of_z w128 c.args.l.1) ≡ c.args.l.1 = search rules in
    let start = subst (λ (w : ℤ). IsLevel es (s.0.0, w)) (sym w_kept) (subst (λ (v : Point). IsLevel es (v, c.args.l.1)) at level) in
    let right : IsRight es s.0 c.in_ok-right_of.field-0 = c.in_ok-right_of.ensures es counts.split (subst (λ (v : Point). IsStar es v c.args.fan.now) at star) away.stands start in
    let r_kept : to_z w128 (of_z w128 c.in_ok-right_of.field-0) ≡ c.in_ok-right_of.field-0 = search rules in
    c.right_along.ensures es counts.split own (r_kept ∙ (right ∙ ap (λ (k : Counted). right_winding es k.0) is))
