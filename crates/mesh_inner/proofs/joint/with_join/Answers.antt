-- A corner that turns to the right is seen from its other end.
use Rattle.std.proofs.Common.{◌≡◌, sym, ◌∙◌, subst}
use Rattle.std.specs.Prelude.{ℤ, pos, ◌≤ℤ◌, ◌<ℤ◌, IfOk}
use Rattle.std.proofs.lemmas.Int.{to_z-of_z}
use mir.Syntax.{w128}
use mir.Val.{to_z, of_z}
use Rattle.mesh_plane.proofs.Comparing.{test_less, test_not_less}
use Rattle.mesh_num.specs.Segments.{proper_edges}
use Rattle.mesh_stroke.specs.Strokes.{EdgePair, facing, outer_edges}
use Rattle.mesh_stroke.proofs.Corners.{left_turn, other_way, faced_there, faced_here, turned_there}
use Rattle.mesh_inner.specs.Private.Walks.{IsLimit}
use Rattle.mesh_inner.specs.Room.{FansHaveRoom}
use Rattle.mesh_inner.proofs.Joints.{corner_back}
use Rattle.mesh_inner.proofs.joint.with_join.Goals as goal

pub with_facing-requires-clause-corner : goal.with_facing-requires-clause-corner
with_facing-requires-clause-corner g c =
    rw (c.reversed.ensures, c.reversed-then-turns_right.ensures)
    (corner_back g.I.IntNumber.unit (g.I.IntNumber.value c.args.radius) c.args.join.now c.args.before c.args.after c.requires)

pub with_facing-requires-clause-facing : goal.with_facing-requires-clause-facing
with_facing-requires-clause-facing g c =
    let right : left_turn (c.args.before, c.args.after) <ℤ pos 0 = test_less _ _ (sym c.turns_right.ensures ∙ c.if-turns_right.true) in
    rw (c.reversed.ensures, c.reversed-then-turns_right.ensures) (turned_there c.args.before c.args.after right)

pub returns-then-turns_right-clause-limit : goal.returns-then-turns_right-clause-limit
returns-then-turns_right-clause-limit g c =
    let right : left_turn (c.args.before, c.args.after) <ℤ pos 0 = test_less _ _ (sym c.turns_right.ensures ∙ c.if-turns_right.true) in
    let Told : ℤ → EdgePair → Type 0 = λ z k. IfOk c.with_facing.result (λ least. IsLimit least (λ t. (pos t ≤ℤ z)
    × FansHaveRoom t k.0.1 (proper_edges (outer_edges g.I.IntNumber.unit (g.I.IntNumber.value c.args.radius) c.args.join.now k)))) in
    let ends : (c.reversed.result, c.reversed-then-turns_right.result) ≡ other_way (c.args.before, c.args.after) = λ i. (c.reversed.ensures i, c.reversed-then-turns_right.ensures i) in
    subst (λ (z : ℤ). Told z (facing (c.args.before, c.args.after))) (to_z-of_z w128 c.args.limit c.ranges.limit)
    (subst (Told (to_z w128 (of_z w128 c.args.limit))) (sym (faced_there (c.args.before, c.args.after) right))
    (subst (Told (to_z w128 (of_z w128 c.args.limit))) ends c.with_facing.ensures.limit))

pub with_facing-requires-2-clause-facing : goal.with_facing-requires-2-clause-facing
with_facing-requires-2-clause-facing g c = test_not_less _ _ (sym c.turns_right.ensures ∙ c.if-turns_right.false)

pub returns-clause-limit : goal.returns-clause-limit
returns-clause-limit g c =
    let left : pos 0 ≤ℤ left_turn (c.args.before, c.args.after) = test_not_less _ _ (sym c.turns_right.ensures ∙ c.if-turns_right.false) in
    let Told : ℤ → EdgePair → Type 0 = λ z k. IfOk c.with_facing-2.result (λ least. IsLimit least (λ t. (pos t ≤ℤ z)
    × FansHaveRoom t k.0.1 (proper_edges (outer_edges g.I.IntNumber.unit (g.I.IntNumber.value c.args.radius) c.args.join.now k)))) in
    subst (λ (z : ℤ). Told z (facing (c.args.before, c.args.after))) (to_z-of_z w128 c.args.limit c.ranges.limit)
    (subst (Told (to_z w128 (of_z w128 c.args.limit))) (sym (faced_here (c.args.before, c.args.after) left)) c.with_facing-2.ensures.limit)
