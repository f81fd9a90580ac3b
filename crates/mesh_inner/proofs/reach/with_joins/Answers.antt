-- One more join, and all of them.
use Rattle.std.proofs.Common.{◌≡◌, ◌+◌, ◌∷◌, ◌∙◌, [], refl, take, sym, subst, arith, take_all, rules}
use Rattle.std.specs.Prelude.{ℤ, pos, ◌≤ℤ◌}
use Rattle.std.proofs.lemmas.Int.{to_z-of_z}
use Rattle.std.proofs.lemmas.Result.{IfOk-weaker}
use mir.Syntax.{w128}
use mir.Val.{to_z, of_z}
use Rattle.std.specs.List.{All}
use Rattle.mesh_plane.specs.Winding.{pairs_from}
use Rattle.mesh_stroke.specs.Paths.{neighbours}
use Rattle.mesh_stroke.specs.Styles.{stroke_style_of}
use Rattle.mesh_inner.specs.Inner.{HasJoinRoom}
use Rattle.mesh_inner.specs.Private.Walks.{IsLimit}
use Rattle.mesh_inner.proofs.Limits.{grown, limit_none}
use Rattle.mesh_inner.proofs.Reaches.{none_of_length, corner_fits, closing_fits, joins_none, joins_pushed, joins_closed, joins_open}
use Rattle.mesh_inner.proofs.Walks.{last_grown}
use Rattle.mesh_inner.proofs.reach.with_joins.Goals as goal

pub loop-after-init : goal.loop-after-init
loop-after-init g c = record {
  limit = limit_none (HasJoinRoom g.I.IntNumber.unit (stroke_style_of g.I.IntNumber.value c.args.style.now)) (to_z w128 (of_z w128 c.args.limit));
  before = refl;
  same = c.new-join.ensures;
}

pub with_join-requires : goal.with_join-requires
with_join-requires g c =
    let whole : c.args.edges.now ≡ c.in-Some.first.now ∷ c.in-Some.others.now = search rules in
    corner_fits g.I.IntNumber.unit (stroke_style_of g.I.IntNumber.value c.args.style.now) c.args.closed c.args.edges.now c.in-Some.first.now c.in-Some.others.now
    (g.I.IntNumber.value c.stroke_radius-radius.result) c.loop-after.join c.loop-after.before c.after-item.result c.loop-after.after-index
    c.requires whole c.stroke_radius-radius.ensures.value c.stroke_radius-radius.ensures.least c.loop-after.invariant.same
    c.loop-after.invariant.before (omega (arith, c.loop-after-test.true)) c.after-item.is

pub loop-after-preserved : goal.loop-after-preserved
loop-after-preserved g c =
    let more = grown c.in-Some.others.now c.loop-after.after-index c.after-item.result (omega (arith, c.loop-after-test.true)) c.after-item.is in
    let kept : to_z w128 (of_z w128 c.in_ok-least.least) ≡ c.in_ok-least.least = search rules in
    record {
      limit =
          subst (λ (z : ℤ). IsLimit z (λ t. (pos t ≤ℤ to_z w128 (of_z w128 c.args.limit))
          × All (HasJoinRoom g.I.IntNumber.unit (stroke_style_of g.I.IntNumber.value c.args.style.now) t) (pairs_from c.in-Some.first.now (take (c.loop-after.after-index + 1) c.in-Some.others.now)))) (sym kept)
          (joins_pushed g.I.IntNumber.unit (stroke_style_of g.I.IntNumber.value c.args.style.now) (to_z w128 (of_z w128 c.args.limit)) (to_z w128 c.loop-after.least-bits) c.in_ok-least.least
          (g.I.IntNumber.value c.stroke_radius-radius.result) c.loop-after.join c.in-Some.first.now (take c.loop-after.after-index c.in-Some.others.now) (take (c.loop-after.after-index + 1) c.in-Some.others.now) c.loop-after.before c.after-item.result
          c.stroke_radius-radius.ensures.value c.loop-after.invariant.same c.loop-after.invariant.before more c.loop-after.invariant.limit c.in_ok-least.ensures.limit);
      before = sym (last_grown c.in-Some.first.now (take c.loop-after.after-index c.in-Some.others.now) (take (c.loop-after.after-index + 1) c.in-Some.others.now) c.after-item.result more);
      same = c.with_join.ensures.same ∙ c.loop-after.invariant.same;
    }

pub with_join-requires-then-closed : goal.with_join-requires-then-closed
with_join-requires-then-closed g c =
    let whole : c.args.edges.now ≡ c.in-Some.first.now ∷ c.in-Some.others.now = search rules in
    closing_fits g.I.IntNumber.unit (stroke_style_of g.I.IntNumber.value c.args.style.now) c.args.closed c.args.edges.now c.in-Some.first.now c.in-Some.others.now
    (take c.loop-after.after-index c.in-Some.others.now) (g.I.IntNumber.value c.stroke_radius-radius.result) c.loop-after.join c.loop-after.before
    c.requires whole c.if-closed.true c.stroke_radius-radius.ensures.value c.stroke_radius-radius.ensures.least c.loop-after.invariant.same
    c.loop-after.invariant.before (take_all c.loop-after.after-index c.in-Some.others.now (omega (arith, c.loop-after-test.false)))

pub returns-then-closed : goal.returns-then-closed
returns-then-closed g c =
    let whole : c.args.edges.now ≡ c.in-Some.first.now ∷ c.in-Some.others.now = search rules in
    let so_far : IsLimit (to_z w128 c.loop-after.least-bits) (λ t. (pos t ≤ℤ c.args.limit) × All (HasJoinRoom g.I.IntNumber.unit (stroke_style_of g.I.IntNumber.value c.args.style.now) t) (pairs_from c.in-Some.first.now (take c.loop-after.after-index c.in-Some.others.now))) =
    subst (λ (z : ℤ). IsLimit (to_z w128 c.loop-after.least-bits) (λ t. (pos t ≤ℤ z) × All (HasJoinRoom g.I.IntNumber.unit (stroke_style_of g.I.IntNumber.value c.args.style.now) t) (pairs_from c.in-Some.first.now (take c.loop-after.after-index c.in-Some.others.now))))
    (to_z-of_z w128 c.args.limit c.ranges.limit) c.loop-after.invariant.limit in
    IfOk-weaker c.with_join-then-closed.result _ _
    (λ least h. joins_closed g.I.IntNumber.unit (stroke_style_of g.I.IntNumber.value c.args.style.now) c.args.limit (to_z w128 c.loop-after.least-bits) least (g.I.IntNumber.value c.stroke_radius-radius.result) c.loop-after.join
    c.args.closed c.args.edges.now c.in-Some.first.now c.in-Some.others.now (take c.loop-after.after-index c.in-Some.others.now) c.loop-after.before whole c.if-closed.true c.stroke_radius-radius.ensures.value
    c.loop-after.invariant.same c.loop-after.invariant.before (take_all c.loop-after.after-index c.in-Some.others.now (omega (arith, c.loop-after-test.false))) so_far h)
    c.with_join-then-closed.ensures.limit

pub returns : goal.returns
returns g c =
    let whole : c.args.edges.now ≡ c.in-Some.first.now ∷ c.in-Some.others.now = search rules in
    let so_far : IsLimit (to_z w128 c.loop-after.least-bits) (λ t. (pos t ≤ℤ c.args.limit) × All (HasJoinRoom g.I.IntNumber.unit (stroke_style_of g.I.IntNumber.value c.args.style.now) t) (pairs_from c.in-Some.first.now (take c.loop-after.after-index c.in-Some.others.now))) =
    subst (λ (z : ℤ). IsLimit (to_z w128 c.loop-after.least-bits) (λ t. (pos t ≤ℤ z) × All (HasJoinRoom g.I.IntNumber.unit (stroke_style_of g.I.IntNumber.value c.args.style.now) t) (pairs_from c.in-Some.first.now (take c.loop-after.after-index c.in-Some.others.now))))
    (to_z-of_z w128 c.args.limit c.ranges.limit) c.loop-after.invariant.limit in
    joins_open g.I.IntNumber.unit (stroke_style_of g.I.IntNumber.value c.args.style.now) c.args.limit (to_z w128 c.loop-after.least-bits) c.args.closed c.args.edges.now
    c.in-Some.first.now c.in-Some.others.now (take c.loop-after.after-index c.in-Some.others.now) whole c.if-closed.false (take_all c.loop-after.after-index c.in-Some.others.now (omega (arith, c.loop-after-test.false))) so_far

pub returns-in_default : goal.returns-in_default
returns-in_default g c =
    let none : c.args.edges.now ≡ [] = none_of_length c.args.edges.now (search rules) in
    subst (λ (z : ℤ). IsLimit z (λ t. (pos t ≤ℤ c.args.limit) × All (HasJoinRoom g.I.IntNumber.unit (stroke_style_of g.I.IntNumber.value c.args.style.now) t) (neighbours c.args.closed c.args.edges.now)))
    (sym (to_z-of_z w128 c.args.limit c.ranges.limit)) (joins_none g.I.IntNumber.unit (stroke_style_of g.I.IntNumber.value c.args.style.now) c.args.limit c.args.closed c.args.edges.now none)
