-- The wide type holds the product, so it is below 2 ^ 63.
use Rattle.std.proofs.Common.{◌∙◌}
use Rattle.std.proofs.lemmas.Int.{to_z-of_z}
use mir.Syntax.{w128}
use Rattle.mesh_plane.specs.Plane.{cross}
use Rattle.mesh_arc.proofs.Sizes.{wide_size}
use Rattle.mesh_arc.proofs.steps.cross.Goals as goal

pub returns-clause-value : goal.returns-clause-value
returns-clause-value g c =
    to_z-of_z w128 c.wide_to_i128.result (record { sfits = c.wide_to_i128.type_inv }) ∙ c.wide_to_i128.ensures.value
    ∙ c.cross_product.ensures ∙ (λ i. cross (c.vector.ensures.value i) (c.vector-2.ensures.value i))

pub returns-clause-size : goal.returns-clause-size
returns-clause-size g c =
    rw (to_z-of_z w128 c.wide_to_i128.result (record { sfits = c.wide_to_i128.type_inv }))
    (wide_size _ g.I.IntNumber.unit _ _ g.met.I.IntNumber.half_law g.met.I.IntNumber.most_law c.wide_to_i128.ensures.range c.wide_to_i128.ensures.value)
