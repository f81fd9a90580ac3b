use Rattle.std.proofs.Common.{rules, ◌≡◌, ◌∙◌}
use Rattle.std.specs.Prelude.{ℤ, ◌-ℤ◌}
use mir.Syntax.{w128}
use mir.Val.{to_z, of_z}
use Rattle.mesh_regions.specs.Star.{net_before}
use Rattle.mesh_boundary.specs.Private.Flood.{IsLevel}
use Rattle.mesh_boundary.proofs.Levels.{checked, level_from}
use Rattle.mesh_boundary.proofs.flood.level_of.Goals as goal

pub returns : goal.returns
returns c = λ es split star stands right.
    let e = c.args.e in
    let r = c.args.right in
    let n = c.in_ok-before.field-0 in
    let count : n ≡ net_before e es = c.in_ok-before.ensures ∙ star e.1 in
    let r_kept : to_z w128 (of_z w128 r) ≡ r = search rules in
    let n_kept : to_z w128 (of_z w128 n) ≡ n = search rules in
    checked c.checked_sub.result _ _ (r -ℤ n) (λ (w : ℤ). IsLevel es (e.0, w)) c.checked_sub.ensures (λ i. r_kept i -ℤ n_kept i) (level_from es e r n split stands right count)
