-- One more section, and all of them.
use Rattle.std.proofs.Common.{◌≡◌, ℕ, ◌+◌, take, sym, subst, arith, take_all, List, []}
use Rattle.std.specs.Prelude.{ℤ, pos, ◌≤ℤ◌}
use Rattle.std.specs.Int.{int_min}
use Rattle.std.specs.List.{All}
use Rattle.std.proofs.lemmas.Int.{to_z-of_z}
use Rattle.std.proofs.lemmas.List.Elements.{All-nil}
use mir.Syntax.{w128}
use mir.Val.{to_z}
use Rattle.mesh_plane.specs.Plane.{Edge}
use Rattle.mesh_inner.specs.Inner.{IsSectionWide}
use Rattle.mesh_inner.specs.Private.Walks.{IsFitEdge, IsLimit}
use Rattle.mesh_inner.proofs.Limits.{limit_push, limit_both, limit_own, limit_of, limit_cons, grown}
use Rattle.mesh_inner.proofs.section.sections_limit.Goals as goal

pub loop-edge-init : goal.loop-edge-init
loop-edge-init g c =
    let Wide : ℕ → Edge → Type 0 = λ t e. IsSectionWide g.I.IntNumber.unit (g.I.IntNumber.value c.args.radius) t e in
    rw (to_z-of_z w128 c.section_limit-least.result (record { sfits = c.section_limit-least.type_inv }))
    (limit_of c.section_limit-least.result (λ t. Wide t c.args.first) (λ t. Wide t c.args.first × All (Wide t) []) c.section_limit-least.ensures
    (λ t h. (h, All-nil (Wide t))) (λ t h. h.0))

pub section_limit-requires-clause-fit : goal.section_limit-requires-clause-fit
section_limit-requires-clause-fit g c =
    subst (IsFitEdge g.I.IntNumber.unit (g.I.IntNumber.value c.args.radius)) (sym c.edge-item.is)
    (c.requires.others c.loop-edge.edge-index c.edge-item.result (omega (arith, c.loop-edge-test.true)))

pub loop-edge-preserved : goal.loop-edge-preserved
loop-edge-preserved g c =
    let Wide : ℕ → Edge → Type 0 = λ t e. IsSectionWide g.I.IntNumber.unit (g.I.IntNumber.value c.args.radius) t e in
    let kept = to_z-of_z w128 c.min-least.result (record { sfits = c.min-least.type_inv }) in
    let before : ℤ = to_z w128 c.loop-edge.least-bits in
    let least : c.min-least.result ≡ int_min before c.section_limit.result = rw (to_z-of_z w128 c.section_limit.result (record { sfits = c.section_limit.type_inv })) at c.min-least.ensures.value in
    rw kept
    (limit_push Wide (λ t. Wide t c.args.first) before c.min-least.result (take c.loop-edge.edge-index c.args.others.now) (take (c.loop-edge.edge-index + 1) c.args.others.now) c.edge-item.result
    (grown c.args.others.now c.loop-edge.edge-index c.edge-item.result (omega (arith, c.loop-edge-test.true)) c.edge-item.is)
    c.loop-edge.invariant
    (limit_both before c.section_limit.result c.min-least.result (λ t. pos t ≤ℤ before) (λ t. Wide t c.edge-item.result) least (limit_own before) c.section_limit.ensures))

pub returns : goal.returns
returns g c =
    let Wide : ℕ → Edge → Type 0 = λ t e. IsSectionWide g.I.IntNumber.unit (g.I.IntNumber.value c.args.radius) t e in
    let least : ℤ = to_z w128 c.loop-edge.least-bits in
    let so_far : IsLimit least (λ t. Wide t c.args.first × All (Wide t) (take c.loop-edge.edge-index c.args.others.now)) = c.loop-edge.invariant in
    limit_cons Wide least c.args.first c.args.others.now
    (subst (λ (es : List Edge). IsLimit least (λ t. Wide t c.args.first × All (Wide t) es))
    (take_all c.loop-edge.edge-index c.args.others.now (omega (arith, c.loop-edge-test.false))) so_far)
