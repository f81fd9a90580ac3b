-- The size of a coordinate fits the wide type.
use Rattle.std.proofs.Common.{◌∙◌, ap}
use Rattle.std.specs.Prelude.{ℤ, pos, unsigned_abs}
use Rattle.std.proofs.lemmas.Int.{to_z-of_z}
use mir.Syntax.{w128}
use Rattle.mesh_num.proofs.Products.{opposite_fits, size_of_coordinate_within}
use Rattle.mesh_num.proofs.num.convert.wide_size.Goals as goal

pub abs-size-requires : goal.abs-size-requires
abs-size-requires g c =
    rw (to_z-of_z w128 c.widen.result (record { sfits = c.widen.type_inv })) (opposite_fits c.widen.result c.widen.ensures.small)

pub from_i128-requires : goal.from_i128-requires
from_i128-requires g c =
    let e = to_z-of_z w128 c.widen.result (record { sfits = c.widen.type_inv }) ∙ c.widen.ensures.value in
    let s = c.abs-size.ensures.value ∙ ap (λ (z : ℤ). pos (unsigned_abs z)) e in
    rw (to_z-of_z w128 c.abs-size.result (record { sfits = c.abs-size.type_inv }))
    (size_of_coordinate_within _ g.I.IntNumber.unit _ _ g.met.I.IntNumber.half_law g.met.I.IntNumber.least_law c.widen.ensures.range s)

pub returns : goal.returns
returns g c =
    let e = to_z-of_z w128 c.widen.result (record { sfits = c.widen.type_inv }) ∙ c.widen.ensures.value in
    c.from_i128.ensures ∙ to_z-of_z w128 c.abs-size.result (record { sfits = c.abs-size.type_inv })
    ∙ c.abs-size.ensures.value ∙ ap (λ (z : ℤ). pos (unsigned_abs z)) e
