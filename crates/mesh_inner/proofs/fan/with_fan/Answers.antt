-- One more triangle, and all of them.
use Rattle.std.proofs.Common.{◌≡◌, ℕ, ◌+◌, ◌∙◌, take, ap, subst, arith, take_all, List}
use Rattle.std.specs.Prelude.{ℤ, pos, ◌≤ℤ◌}
use Rattle.std.specs.Int.{int_min}
use Rattle.std.specs.List.{All}
use Rattle.std.proofs.lemmas.Int.{to_z-of_z}
use mir.Syntax.{w128}
use mir.Val.{to_z, of_z}
use Rattle.mesh_plane.specs.Plane.{Point, Edge, minus}
use Rattle.mesh_num.specs.Segments.{SignedEdge, edge_of, edges_of}
use Rattle.mesh_inner.specs.Private.Walks.{IsLimit}
use Rattle.mesh_inner.specs.Room.{HasRoom}
use Rattle.mesh_inner.proofs.Limits.{limit_push, limit_both, limit_own, limit_mapped, grown}
use Rattle.mesh_inner.proofs.fan.with_fan.Goals as goal

pub loop-segment-preserved : goal.loop-segment-preserved
loop-segment-preserved g c =
    let corner : Point = c.args.corner in
    let Room : ℕ → SignedEdge → Type 0 = λ t s. HasRoom t (minus (edge_of s).0 corner) (minus (edge_of s).1 corner) in
    let kept = to_z-of_z w128 c.min-least.result (record { sfits = c.min-least.type_inv }) in
    let limit : ℤ = to_z w128 (of_z w128 c.args.limit) in
    let own : c.edge-edge.result ≡ edge_of c.segment-item.result = c.edge-edge.ensures in
    let start : c.way.result ≡ minus (edge_of c.segment-item.result).0 corner = c.way.ensures.value ∙ ap (λ (e : Edge). minus e.0 corner) (c.edge.view_is ∙ own) in
    let end : c.way-in-loop-segment.result ≡ minus (edge_of c.segment-item.result).1 corner = c.way-in-loop-segment.ensures.value ∙ ap (λ (e : Edge). minus e.1 corner) (c.edge.view_is ∙ own) in
    let room : IsLimit c.room.result (λ t. Room t c.segment-item.result) = rw (start, end) at c.room.ensures in
    let before : ℤ = to_z w128 c.loop-segment.least-bits in
    let least : c.min-least.result ≡ int_min before c.room.result = rw (to_z-of_z w128 c.room.result (record { sfits = c.room.type_inv })) at c.min-least.ensures.value in
    rw kept
    (limit_push Room (λ t. pos t ≤ℤ limit) before c.min-least.result (take c.loop-segment.segment-index c.args.fan.now) (take (c.loop-segment.segment-index + 1) c.args.fan.now) c.segment-item.result
    (grown c.args.fan.now c.loop-segment.segment-index c.segment-item.result (omega (arith, c.loop-segment-test.true)) c.segment-item.is)
    c.loop-segment.invariant
    (limit_both before c.room.result c.min-least.result (λ t. pos t ≤ℤ before) (λ t. Room t c.segment-item.result) least (limit_own before) room))

pub returns : goal.returns
returns g c =
    let corner : Point = c.args.corner in
    let Room : ℕ → Edge → Type 0 = λ t e. HasRoom t (minus e.0 corner) (minus e.1 corner) in
    let least : ℤ = to_z w128 c.loop-segment.least-bits in
    let limit : ℤ = to_z w128 (of_z w128 c.args.limit) in
    let so_far : IsLimit least (λ t. (pos t ≤ℤ limit) × All (λ (s : SignedEdge). Room t (edge_of s)) (take c.loop-segment.segment-index c.args.fan.now)) = c.loop-segment.invariant in
    let all = subst (λ (ss : List SignedEdge). IsLimit least (λ t. (pos t ≤ℤ limit) × All (λ (s : SignedEdge). Room t (edge_of s)) ss))
    (take_all c.loop-segment.segment-index c.args.fan.now (omega (arith, c.loop-segment-test.false))) so_far in
    subst (λ (z : ℤ). IsLimit least (λ t. (pos t ≤ℤ z) × All (Room t) (edges_of c.args.fan.now))) (to_z-of_z w128 c.args.limit c.ranges.limit)
    (limit_mapped Room edge_of limit least c.args.fan.now all)
