use Rattle.std.proofs.Common.{rules, ◌≡◌, Bool, cond, ◌∙◌, ap, arith}
use Rattle.std.specs.Prelude.{◌-ℤ◌}
use mir.Syntax.{w128}
use mir.Val.{to_z, of_z}
use Rattle.mesh_plane.proofs.Whole.{linear}
use Rattle.mesh_lattice.specs.Boundary.{right_winding}
use Rattle.mesh_lattice.specs.Counted.{Counted}
use Rattle.mesh_boundary.specs.Private.Flood.{IsRight}
use Rattle.mesh_boundary.specs.Private.Stars.{segment, turned}
use Rattle.mesh_boundary.proofs.Levels.{checked, right_back}
use Rattle.mesh_boundary.proofs.flood.right_along.Goals as goal

pub returns : goal.returns
returns c = λ es split own right.
    let ks = c.args.segments.now in
    let x = c.args.x in
    let k : Counted = segment ks x.0 in
    let r = c.args.right in
    let r_kept : to_z w128 (of_z w128 r) ≡ r = search rules in
    let k_kept : to_z w128 (of_z w128 k.1) ≡ k.1 = search rules in
    let away : r ≡ right_winding es (turned k).0 = right ∙ ap (λ (b : Bool). right_winding es (cond b k (turned k)).0) c.if-x.false in
    let is : r -ℤ k.1 ≡ right_winding es k.0 = omega (arith, linear, away, right_back es k split own) in
    checked c.checked_sub.result _ _ (r -ℤ k.1) (IsRight es k.0) c.checked_sub.ensures (λ i. r_kept i -ℤ k_kept i) is
