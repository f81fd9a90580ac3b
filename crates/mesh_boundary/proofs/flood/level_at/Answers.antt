use Rattle.std.proofs.Common.{rules, ◌≡◌, sym, ◌∙◌, ap}
use mir.Syntax.{w128}
use mir.Val.{to_z, of_z}
use Rattle.mesh_plane.specs.Plane.{Edge}
use Rattle.mesh_lattice.specs.Boundary.{right_winding}
use Rattle.mesh_lattice.specs.Split.{occurs}
use Rattle.mesh_boundary.proofs.Levels.{segment_leaving}
use Rattle.mesh_boundary.proofs.StarLists.{segment_at}
use Rattle.mesh_boundary.proofs.flood.level_at.Goals as goal

pub returns : goal.returns
returns c = λ es counts known is star.
    let ks = c.args.segments.now in
    let x = c.args.x in
    let own = segment_at es ks x.0 counts c.requires in
    let first_kept : to_z w128 (of_z w128 c.in_ok-known_at.field-0) ≡ c.in_ok-known_at.field-0 = search rules in
    let right = c.in_ok-right_leaving.ensures es counts.split own (first_kept ∙ c.in_ok-known_at.ensures es ks known) in
    let kept : to_z w128 (of_z w128 c.in_ok-right_leaving.field-0) ≡ c.in_ok-right_leaving.field-0 = search rules in
    c.level_of.ensures es counts.split star (ap (λ (f : Edge). occurs f es) is ∙ (segment_leaving es ks x own).stands) (kept ∙ (right ∙ ap (right_winding es) (sym is)))
