-- The scaled component fits the wide type.
use Rattle.std.proofs.Common.{◌∙◌, arith}
use Rattle.std.proofs.lemmas.Int.{to_z-of_z}
use mir.Syntax.{w128}
use Rattle.mesh_num.proofs.Products.{within_of_coordinate}
use Rattle.mesh_num.proofs.num.unit_vector.scale_part.Goals as goal

pub from_i128-requires : goal.from_i128-requires
from_i128-requires g c =
    let e = to_z-of_z w128 c.widen-2.result (record { sfits = c.widen-2.type_inv }) ∙ c.widen-2.ensures.value in
    let bound = rw e at c.scaled_part-scaled.ensures.bounded in
    rw (to_z-of_z w128 c.scaled_part-scaled.result (record { sfits = c.scaled_part-scaled.type_inv }))
    (within_of_coordinate _ g.I.IntNumber.unit _ _ g.met.I.IntNumber.half_law (omega (arith, g.met.I.IntNumber.least_law)) c.widen-2.ensures.range bound)
