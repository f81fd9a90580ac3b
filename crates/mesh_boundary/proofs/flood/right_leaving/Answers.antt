use Rattle.std.proofs.Common.{rules, ◌≡◌, Bool, cond, sym, ◌∙◌, ap}
use Rattle.std.specs.Prelude.{ℤ, ◌+ℤ◌}
use mir.Syntax.{w128}
use mir.Val.{to_z, of_z}
use Rattle.mesh_lattice.specs.Boundary.{right_winding}
use Rattle.mesh_lattice.specs.Counted.{Counted}
use Rattle.mesh_boundary.specs.Private.Flood.{IsRight}
use Rattle.mesh_boundary.specs.Private.Stars.{segment, turned, leaving}
use Rattle.mesh_boundary.proofs.Levels.{checked, right_back}
use Rattle.mesh_boundary.proofs.flood.right_leaving.Goals as goal

pub returns : goal.returns
returns c = λ es split own right.
    let ks = c.args.segments.now in
    let x = c.args.x in
    let k : Counted = segment ks x.0 in
    let r = c.args.right in
    let r_kept : to_z w128 (of_z w128 r) ≡ r = search rules in
    let k_kept : to_z w128 (of_z w128 k.1) ≡ k.1 = search rules in
    let is : r +ℤ k.1 ≡ right_winding es (leaving ks x).0 =
    ap (λ (z : ℤ). z +ℤ k.1) right ∙ (sym (right_back es k split own) ∙ ap (λ (b : Bool). right_winding es (cond b k (turned k)).0) (sym c.if-x.false)) in
    checked c.checked_add.result _ _ (r +ℤ k.1) (IsRight es (leaving ks x).0) c.checked_add.ensures (λ i. r_kept i +ℤ k_kept i) is
