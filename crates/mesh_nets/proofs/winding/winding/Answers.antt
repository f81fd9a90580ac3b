-- One edge after another.
use Rattle.std.proofs.Common.{◌+◌, ◌^◌, ◌<◌, ◌≤◌, sym, ◌∙◌, subst, arith}
use Rattle.std.specs.Prelude.{ℤ, pos, ◌+ℤ◌, unsigned_abs}
use mir.Syntax.{w128}
use mir.Val.{to_z}
use Rattle.mesh_plane.specs.Winding.{crossing, refined}
use Rattle.mesh_nets.proofs.Crossings.{next_sum, winding_all, winding_more}
use Rattle.mesh_nets.proofs.winding.winding.Goals as goal

pub overflow_add-sum : goal.overflow_add-sum
overflow_add-sum c =
    let low : c.loop-e.e-index < 2 ^ 64 = omega arith in
    (next_sum c.loop-e.e-index (to_z w128 c.loop-e.sum-bits) c.crossing-sum.result c.loop-e.invariant.size low c.crossing-sum.ensures.size).fits

pub loop-e-preserved : goal.loop-e-preserved
loop-e-preserved c =
    let low : c.loop-e.e-index < 2 ^ 64 = omega arith in
    let next = next_sum c.loop-e.e-index (to_z w128 c.loop-e.sum-bits) c.crossing-sum.result c.loop-e.invariant.size low c.crossing-sum.ensures.size in
    let crossed = c.crossing-sum.ensures.value ∙ (λ k. crossing (c.doubled-q.ensures k) (c.doubled.ensures k) (c.doubled-in-loop-e.ensures k)) in
    record {
      value =
          next.kept
          ∙ ((λ k. c.loop-e.invariant.value k +ℤ crossed k)
          ∙ sym (winding_more 2 (refined 2 c.args.p) c.args.edges.now c.loop-e.e-index ((pos 0, pos 0), (pos 0, pos 0)) c.loop-e-test.true));
      size = subst (λ (z : ℤ). unsigned_abs z ≤ c.loop-e.e-index + 1) (sym next.kept) next.size;
    }

pub returns : goal.returns
returns c = c.loop-e.invariant.value ∙ winding_all c.args.p c.args.edges.now c.loop-e.e-index c.loop-e-test.false
