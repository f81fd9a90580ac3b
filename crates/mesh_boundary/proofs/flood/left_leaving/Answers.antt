use Rattle.std.proofs.Common.{rules, ◌≡◌, Bool, cond, sym, ◌∙◌, ap}
use mir.Syntax.{w128}
use mir.Val.{to_z, of_z}
use Rattle.mesh_lattice.specs.Boundary.{left_winding}
use Rattle.mesh_lattice.specs.Counted.{Counted}
use Rattle.mesh_boundary.specs.Private.Stars.{segment, turned}
use Rattle.mesh_boundary.proofs.Levels.{left_back}
use Rattle.mesh_boundary.proofs.flood.left_leaving.Goals as goal

pub returns : goal.returns
returns c = λ es split own right.
    let k : Counted = segment c.args.segments.now c.args.x.0 in
    let kept : to_z w128 (of_z w128 c.args.right) ≡ c.args.right = search rules in
    kept ∙ (right ∙ (sym (left_back es k split own) ∙ ap (λ (b : Bool). left_winding es (cond b k (turned k)).0) (sym c.if-x.false)))
