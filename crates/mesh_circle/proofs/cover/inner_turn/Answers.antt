-- The cross product of two differences of safe points, whose opposite fits 128 bits.
use Rattle.std.proofs.Common.{◌∙◌, rules}
use Rattle.std.specs.Prelude.{pos, ◌-ℤ◌}
use Rattle.std.proofs.lemmas.Int.{to_z-of_z}
use mir.Syntax.{w128}
use mir.Val.{SFits}
use Rattle.mesh_num.proofs.Moving.{safe_difference}
use Rattle.mesh_circle.proofs.Covers.{opposite_fits, turned_round, turned_on}
use Rattle.mesh_circle.proofs.cover.inner_turn.Goals as goal

pub cross_product-requires-clause-own : goal.cross_product-requires-clause-own
cross_product-requires-clause-own g c =
    rw c.sub.ensures (safe_difference g.I.IntNumber.unit c.args.to c.args.from c.requires.to c.requires.from)

pub cross_product-requires-clause-other : goal.cross_product-requires-clause-other
cross_product-requires-clause-other g c =
    rw c.sub-2.ensures (safe_difference g.I.IntNumber.unit c.args.point c.args.from c.requires.point c.requires.from)

pub returns-then-turn-lt0 : goal.returns-then-turn-lt0
returns-then-turn-lt0 g c =
    let n : SFits w128 (pos 0 -ℤ c.wide_to_i128-side.result) =
    opposite_fits g.I.IntNumber.unit g.I.Wide.WideNumber.half _ _ g.met.I.IntNumber.either_law
    g.met.I.IntNumber.half_law c.wide_to_i128-side.ensures.value c.wide_to_i128-side.ensures.range in
    rw (to_z-of_z w128 c.wide_to_i128-side.result (search rules))
    (turned_round c.args.turn c.args.from c.args.to c.args.point c.sub.result c.sub-2.result
    c.wide_to_i128-side.result _ (rw (to_z-of_z w128 c.args.turn c.ranges.turn) at c.if-turn-lt0.true)
    (c.wide_to_i128-side.ensures.value ∙ c.cross_product.ensures) c.sub.ensures c.sub-2.ensures
    (to_z-of_z w128 (pos 0 -ℤ c.wide_to_i128-side.result) n))

pub returns-else-turn-lt0 : goal.returns-else-turn-lt0
returns-else-turn-lt0 g c =
    rw (to_z-of_z w128 c.wide_to_i128-side.result (search rules))
    (turned_on c.args.turn c.args.from c.args.to c.args.point c.sub.result c.sub-2.result
    c.wide_to_i128-side.result (rw (to_z-of_z w128 c.args.turn c.ranges.turn) at c.if-turn-lt0.false)
    (c.wide_to_i128-side.ensures.value ∙ c.cross_product.ensures) c.sub.ensures c.sub-2.ensures)
