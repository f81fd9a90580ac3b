use Rattle.std.proofs.Common.{◌*◌, ◌∙◌, ap}
use Rattle.std.specs.Prelude.{nat_le, unsigned_abs}
use Rattle.std.proofs.lemmas.Int.{to_z-of_z}
use mir.Syntax.{w128}
use Rattle.mesh_shapes.specs.Contours.{double_area}
use Rattle.mesh_shapes.proofs.arrange.is_large.Goals as goal

pub returns : goal.returns
returns c =
    let kept = to_z-of_z w128 c.double_area.result (record { sfits = c.double_area.type_inv }) in
    let area = kept ∙ (c.double_area.ensures.value ∙ ap double_area c.deref.ensures.value) in
    ap (nat_le (2 * c.args.least_area)) (c.unsigned_abs.ensures.value ∙ ap unsigned_abs area)
