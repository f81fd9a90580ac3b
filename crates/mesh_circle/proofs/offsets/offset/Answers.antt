-- The coordinates fit the wide type.
use Rattle.std.proofs.Common.{◌≤◌, ◌^◌, arith, rules}
use Rattle.std.proofs.lemmas.Int.{to_z-of_z}
use mir.Syntax.{w128}
use mir.Val.{SFits}
use Rattle.mesh_num.proofs.Products.{within_of_coordinate}
use Rattle.mesh_circle.specs.Tangents.{IsWithinRadius}
use Rattle.mesh_circle.proofs.offsets.offset.Goals as goal

pub wide_from_i128-requires : goal.wide_from_i128-requires
wide_from_i128-requires g c =
    let x : SFits w128 c.at_radius-x.result.0 = search rules in
    let r : SFits w128 c.widen.result = search rules in
    let least : 2 ^ 14 ≤ g.I.IntNumber.unit = g.met.I.IntNumber.least_law in
    let w : IsWithinRadius (g.I.IntNumber.value c.args.radius) c.at_radius-x.result =
    rw (to_z-of_z w128 c.widen.result r, c.widen.ensures.value) at c.at_radius-x.ensures.within in
    rw (to_z-of_z w128 c.at_radius-x.result.0 x)
    (within_of_coordinate _ g.I.IntNumber.unit _ _ g.met.I.IntNumber.half_law (omega (arith, least))
    c.widen.ensures.range w.x)

pub wide_from_i128-requires-2 : goal.wide_from_i128-requires-2
wide_from_i128-requires-2 g c =
    let y : SFits w128 c.at_radius-x.result.1 = search rules in
    let r : SFits w128 c.widen.result = search rules in
    let least : 2 ^ 14 ≤ g.I.IntNumber.unit = g.met.I.IntNumber.least_law in
    let w : IsWithinRadius (g.I.IntNumber.value c.args.radius) c.at_radius-x.result =
    rw (to_z-of_z w128 c.widen.result r, c.widen.ensures.value) at c.at_radius-x.ensures.within in
    rw (to_z-of_z w128 c.at_radius-x.result.1 y)
    (within_of_coordinate _ g.I.IntNumber.unit _ _ g.met.I.IntNumber.half_law (omega (arith, least))
    c.widen.ensures.range w.y)
