-- The components of a direction are coordinates.
use Rattle.std.proofs.Common.{◌∙◌}
use Rattle.std.proofs.lemmas.Int.{to_z-of_z}
use mir.Syntax.{w128}
use Rattle.mesh_num.proofs.Products.{short_within}
use Rattle.mesh_num.proofs.num.unit_vector.UnitIntVector.from_parts.Goals as goal

pub narrow-requires : goal.narrow-requires
narrow-requires g c =
    rw (to_z-of_z w128 c.args.x c.ranges.x)
    ((short_within g.I.IntNumber.unit (c.args.x, c.args.y) g.met.I.IntNumber.least_law c.requires).0)

pub narrow-requires-2 : goal.narrow-requires-2
narrow-requires-2 g c =
    rw (to_z-of_z w128 c.args.y c.ranges.y)
    ((short_within g.I.IntNumber.unit (c.args.x, c.args.y) g.met.I.IntNumber.least_law c.requires).1)

pub invariant_of-result : goal.invariant_of-result
invariant_of-result g c =
    rw
    (c.narrow.ensures, c.narrow-2.ensures, to_z-of_z w128 c.args.x c.ranges.x, to_z-of_z w128 c.args.y c.ranges.y)
    c.requires

pub returns : goal.returns
returns g c =
    let x = c.narrow.ensures ∙ to_z-of_z w128 c.args.x c.ranges.x in
    let y = c.narrow-2.ensures ∙ to_z-of_z w128 c.args.y c.ranges.y in
    λ i. (x i, y i)
