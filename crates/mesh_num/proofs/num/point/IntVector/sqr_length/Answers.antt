-- The sum of two squares fits the unsigned wide type.
use Rattle.std.proofs.Common.{◌∙◌}
use Rattle.std.proofs.lemmas.Int.{to_z-of_z}
use mir.Syntax.{w128}
use Rattle.mesh_num.proofs.Products.{square_sum_fits}
use Rattle.mesh_num.proofs.num.point.IntVector.sqr_length.Goals as goal

pub from_u128-requires : goal.from_u128-requires
from_u128-requires g c =
    let s = rw (← c.self.view_is) at c.requires in
    let x = to_z-of_z w128 c.to_i128.result (record { sfits = c.to_i128.type_inv }) ∙ c.to_i128.ensures.value in
    let y = to_z-of_z w128 c.to_i128-2.result (record { sfits = c.to_i128-2.type_inv }) ∙ c.to_i128-2.ensures.value in
    square_sum_fits _ _ g.I.IntNumber.unit _ _ _ _ c.square_sum.ensures x y s g.met.I.IntNumber.limit_law
