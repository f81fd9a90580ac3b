-- The cross product of two differences of safe points.
use Rattle.std.proofs.Common.{◌∙◌, rules}
use Rattle.std.proofs.lemmas.Int.{to_z-of_z}
use mir.Syntax.{w128}
use Rattle.mesh_plane.specs.Plane.{cross}
use Rattle.mesh_num.proofs.Moving.{safe_difference}
use Rattle.mesh_circle.proofs.cover.turn_at_second.Goals as goal

pub cross_product-turn-requires-clause-own : goal.cross_product-turn-requires-clause-own
cross_product-turn-requires-clause-own g c =
    rw c.sub.ensures (safe_difference g.I.IntNumber.unit c.args.second c.args.first c.requires.second c.requires.first)

pub cross_product-turn-requires-clause-other : goal.cross_product-turn-requires-clause-other
cross_product-turn-requires-clause-other g c =
    rw c.sub-2.ensures (safe_difference g.I.IntNumber.unit c.args.third c.args.second c.requires.third c.requires.second)

pub returns : goal.returns
returns g c =
    to_z-of_z w128 c.wide_to_i128.result (search rules) ∙ c.wide_to_i128.ensures.value ∙ c.cross_product-turn.ensures
    ∙ (λ i. cross (c.sub.ensures i) (c.sub-2.ensures i))
