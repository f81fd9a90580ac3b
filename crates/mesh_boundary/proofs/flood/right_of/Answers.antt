use Rattle.std.proofs.Common.{rules, ◌≡◌, ◌∙◌}
use Rattle.std.specs.Prelude.{◌+ℤ◌}
use mir.Syntax.{w128}
use mir.Val.{to_z, of_z}
use Rattle.mesh_regions.specs.Star.{net_before}
use Rattle.mesh_boundary.specs.Private.Flood.{IsRight}
use Rattle.mesh_boundary.proofs.Levels.{checked, right_from}
use Rattle.mesh_boundary.proofs.flood.right_of.Goals as goal

pub returns : goal.returns
returns c = λ es split star stands level.
    let e = c.args.e in
    let w = c.args.winding in
    let n = c.in_ok-before.field-0 in
    let count : n ≡ net_before e es = c.in_ok-before.ensures ∙ star e.1 in
    let w_kept : to_z w128 (of_z w128 w) ≡ w = search rules in
    let n_kept : to_z w128 (of_z w128 n) ≡ n = search rules in
    checked c.checked_add.result _ _ (w +ℤ n) (IsRight es e) c.checked_add.ensures (λ i. w_kept i +ℤ n_kept i) (right_from es e w n split stands level count)
