-- The last edge, and both caps.
use Rattle.std.proofs.Common.{◌≡◌, ◌+◌, [], ◌∷◌, take, sym, subst, arith, take_all, rules}
use Rattle.std.specs.Prelude.{ℤ, pos, ◌≤ℤ◌, IfOk}
use Rattle.std.proofs.lemmas.Int.{to_z-of_z}
use Rattle.std.proofs.lemmas.Result.{IfOk-weaker}
use mir.Syntax.{w128}
use mir.Val.{to_z, of_z}
use Rattle.mesh_stroke.specs.Kinds.{kind_of}
use Rattle.mesh_stroke.specs.Styles.{stroke_style_of}
use Rattle.mesh_inner.specs.Inner.{HasCapRoom, HaveEndsRoom}
use Rattle.mesh_inner.specs.Private.Walks.{IsLimit}
use Rattle.mesh_inner.proofs.Limits.{grown}
use Rattle.mesh_inner.proofs.Reaches.{none_of_length, start_fits, end_fits, start_safe, end_safe, ends_both, ends_closed, ends_none}
use Rattle.mesh_inner.proofs.Walks.{last_grown}
use Rattle.mesh_inner.proofs.reach.with_ends.Goals as goal

pub loop-edge-preserved : goal.loop-edge-preserved
loop-edge-preserved g c =
    sym (last_grown c.in-Some.first.now (take c.loop-edge.edge-index c.in-Some.others.now) (take (c.loop-edge.edge-index + 1) c.in-Some.others.now) c.edge-item.result
    (grown c.in-Some.others.now c.loop-edge.edge-index c.edge-item.result (omega (arith, c.loop-edge-test.true)) c.edge-item.is))

pub with_end-requires-clause-fit : goal.with_end-requires-clause-fit
with_end-requires-clause-fit g c =
    let whole : c.args.edges.now ≡ c.in-Some.first.now ∷ c.in-Some.others.now = search rules in
    rw c.reversed.ensures
    (start_fits g.I.IntNumber.unit (stroke_style_of g.I.IntNumber.value c.args.style.now) c.args.closed c.args.edges.now c.in-Some.first.now c.in-Some.others.now
    (g.I.IntNumber.value c.stroke_radius-radius.result) c.requires.path whole c.stroke_radius-radius.ensures.value)

pub with_end-requires-clause-safe : goal.with_end-requires-clause-safe
with_end-requires-clause-safe g c =
    let whole : c.args.edges.now ≡ c.in-Some.first.now ∷ c.in-Some.others.now = search rules in
    rw c.reversed.ensures
    (start_safe g.I.IntNumber.unit (stroke_style_of g.I.IntNumber.value c.args.style.now) c.args.closed c.args.edges.now c.in-Some.first.now c.in-Some.others.now
    (g.I.IntNumber.value c.stroke_radius-radius.result) c.requires.path whole c.requires.both c.stroke_radius-radius.ensures.value)

pub with_end-requires-2-clause-fit : goal.with_end-requires-2-clause-fit
with_end-requires-2-clause-fit g c =
    let whole : c.args.edges.now ≡ c.in-Some.first.now ∷ c.in-Some.others.now = search rules in
    end_fits g.I.IntNumber.unit (stroke_style_of g.I.IntNumber.value c.args.style.now) c.args.closed c.args.edges.now c.in-Some.first.now c.in-Some.others.now
    (take c.loop-edge.edge-index c.in-Some.others.now) c.loop-edge.last (g.I.IntNumber.value c.stroke_radius-radius.result) c.requires.path whole c.loop-edge.invariant
    (take_all c.loop-edge.edge-index c.in-Some.others.now (omega (arith, c.loop-edge-test.false))) c.stroke_radius-radius.ensures.value

pub with_end-requires-2-clause-safe : goal.with_end-requires-2-clause-safe
with_end-requires-2-clause-safe g c =
    let whole : c.args.edges.now ≡ c.in-Some.first.now ∷ c.in-Some.others.now = search rules in
    end_safe g.I.IntNumber.unit (stroke_style_of g.I.IntNumber.value c.args.style.now) c.args.closed c.args.edges.now c.in-Some.first.now c.in-Some.others.now
    (take c.loop-edge.edge-index c.in-Some.others.now) c.loop-edge.last (g.I.IntNumber.value c.stroke_radius-radius.result) c.requires.path whole c.loop-edge.invariant
    (take_all c.loop-edge.edge-index c.in-Some.others.now (omega (arith, c.loop-edge-test.false))) c.requires.both c.stroke_radius-radius.ensures.value

pub returns : goal.returns
returns g c =
    let whole : c.args.edges.now ≡ c.in-Some.first.now ∷ c.in-Some.others.now = search rules in
    let kept : to_z w128 (of_z w128 c.in_ok-start.start) ≡ c.in_ok-start.start = search rules in
    let start : IsLimit c.in_ok-start.start (λ t. (pos t ≤ℤ c.args.limit)
    × HasCapRoom g.I.IntNumber.unit (g.I.IntNumber.value c.stroke_radius-radius.result) t (kind_of c.args.style.now.start_cap) c.reversed.result) =
    subst (λ (z : ℤ). IsLimit c.in_ok-start.start (λ t. (pos t ≤ℤ z)
    × HasCapRoom g.I.IntNumber.unit (g.I.IntNumber.value c.stroke_radius-radius.result) t (kind_of c.args.style.now.start_cap) c.reversed.result))
    (to_z-of_z w128 c.args.limit c.ranges.limit) c.in_ok-start.ensures in
    IfOk-weaker c.with_end-2.result _ _
    (λ least h. ends_both g.I.IntNumber.unit (stroke_style_of g.I.IntNumber.value c.args.style.now) c.args.limit c.in_ok-start.start least (g.I.IntNumber.value c.stroke_radius-radius.result) c.args.closed c.args.edges.now
    c.in-Some.first.now c.in-Some.others.now (take c.loop-edge.edge-index c.in-Some.others.now) c.reversed.result c.loop-edge.last whole c.if-closed.false c.reversed.ensures c.loop-edge.invariant
    (take_all c.loop-edge.edge-index c.in-Some.others.now (omega (arith, c.loop-edge-test.false))) c.stroke_radius-radius.ensures.value start h)
    (subst (λ (z : ℤ). IfOk c.with_end-2.result (λ least. IsLimit least (λ t. (pos t ≤ℤ z)
    × HasCapRoom g.I.IntNumber.unit (g.I.IntNumber.value c.stroke_radius-radius.result) t (kind_of c.args.style.now.end_cap) c.loop-edge.last))) kept c.with_end-2.ensures)

pub returns-then-closed : goal.returns-then-closed
returns-then-closed g c =
    subst (λ (z : ℤ). IsLimit z (λ t. (pos t ≤ℤ c.args.limit) × HaveEndsRoom g.I.IntNumber.unit (stroke_style_of g.I.IntNumber.value c.args.style.now) c.args.closed t c.args.edges.now))
    (sym (to_z-of_z w128 c.args.limit c.ranges.limit)) (ends_closed g.I.IntNumber.unit (stroke_style_of g.I.IntNumber.value c.args.style.now) c.args.limit c.args.closed c.args.edges.now c.if-closed.true)

pub returns-in_default : goal.returns-in_default
returns-in_default g c =
    let none : c.args.edges.now ≡ [] = none_of_length c.args.edges.now (search rules) in
    subst (λ (z : ℤ). IsLimit z (λ t. (pos t ≤ℤ c.args.limit) × HaveEndsRoom g.I.IntNumber.unit (stroke_style_of g.I.IntNumber.value c.args.style.now) c.args.closed t c.args.edges.now))
    (sym (to_z-of_z w128 c.args.limit c.ranges.limit)) (ends_none g.I.IntNumber.unit (stroke_style_of g.I.IntNumber.value c.args.style.now) c.args.limit c.args.closed c.args.edges.now c.if-closed.false none)
