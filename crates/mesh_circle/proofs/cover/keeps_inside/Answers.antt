-- The circle as its center and its radius.
use Rattle.std.proofs.Common.{rules}
use Rattle.std.proofs.lemmas.Int.{to_z-of_z}
use mir.Syntax.{w128}
use mir.Val.{SFits}
use Rattle.mesh_circle.proofs.Covers.{keeps_made}
use Rattle.mesh_circle.proofs.cover.keeps_inside.Goals as goal

pub returns-then-side-ge0 : goal.returns-then-side-ge0
returns-then-side-ge0 g c =
    let p : SFits w128 c.inner_turn-side.result = search rules in
    let q : SFits w128 c.reach.result = search rules in
    let s = to_z-of_z w128 c.inner_turn-side.result p in
    let h = simp s at c.if-side-ge0.true in
    let t = simp (to_z-of_z w128 c.args.turn c.ranges.turn) at c.inner_turn-side.ensures in
    rw (to_z-of_z w128 c.reach.result q, s)
    (keeps_made c.args.turn c.args.circle (c.args.from, c.args.to) _ _ c.inner_turn-side.result c.reach.result
    c.raised_length.result c.circle.view_is h t c.reach.ensures c.raised_length.ensures.value)
