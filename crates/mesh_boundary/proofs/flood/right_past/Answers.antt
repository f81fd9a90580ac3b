use Rattle.std.proofs.Common.{rules, ◌≡◌, ◌∙◌}
use mir.Syntax.{w128}
use mir.Val.{to_z, of_z}
use Rattle.mesh_regions.proofs.StarSums.{facing_sides}
use Rattle.mesh_boundary.specs.Private.Stars.{leaving}
use Rattle.mesh_boundary.proofs.StarLists.{segment_at}
use Rattle.mesh_boundary.proofs.flood.right_past.Goals as goal

pub returns : goal.returns
returns c = λ es counts next right.
    let ks = c.args.segments.now in
    let x = c.args.x in
    let y = c.args.y in
    let r_kept : to_z w128 (of_z w128 c.args.right) ≡ c.args.right = search rules in
    let left = c.in_ok-left_leaving.ensures es counts.split (segment_at es ks x.0 counts c.requires.first) (r_kept ∙ right) in
    let kept : to_z w128 (of_z w128 c.in_ok-left_leaving.field-0) ≡ c.in_ok-left_leaving.field-0 = search rules in
    c.right_along.ensures es counts.split (segment_at es ks y.0 counts c.requires.second) (kept ∙ (left ∙ facing_sides es counts.split (leaving ks x).0 (leaving ks y).0 next))
