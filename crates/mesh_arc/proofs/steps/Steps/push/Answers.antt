-- One direction more, or the end.
use Rattle.std.proofs.Common.{◌≡◌, ◌<◌, true, false, sym, ◌∙◌, rules, arith, inl, inr}
use Rattle.mesh_num.specs.Rotation.{rotated}
use Rattle.mesh_arc.specs.Arcs.{most_directions}
use Rattle.mesh_arc.specs.Private.Steps.{ends}
use Rattle.mesh_arc.proofs.Filling.{turning_starts, ends_is, turning_goes, turning_ends, more_come, turned_so_far}
use Rattle.mesh_arc.proofs.steps.Steps.push.Goals as goal

pub loop-init : goal.loop-init
loop-init g c = rw c.requires (turning_starts _ _ _ _)

pub returns-then-ends-clause-ok : goal.returns-then-ends-clause-ok
returns-then-ends-clause-ok g c =
    let i = c.loop.invariant in
    let n : c.apply-next.result ≡ rotated c.args.self.now.step c.loop.current = search rules in
    let e : ends c.args.self.now c.args.from c.args.to c.loop.counter ≡ true =
    sym (ends_is c.args.self.now c.args.from c.args.to c.loop.counter c.loop.current c.apply-next.result i.current_is n) ∙ sym c.ends.ensures ∙ c.if-ends.true in
    turning_ends _ _ _ _ _ _ _ _ i (inr e)

pub returns-then-ends-clause-capacity : goal.returns-then-ends-clause-capacity
returns-then-ends-clause-capacity g c = c.loop.invariant.grown

pub returns-in_err-push-clause-room : goal.returns-in_err-push-clause-room
returns-in_err-push-clause-room g c h =
    let i = c.loop.invariant in
    let n : c.apply-next.result ≡ rotated c.args.self.now.step c.loop.current = search rules in
    let e : ends c.args.self.now c.args.from c.args.to c.loop.counter ≡ false =
    sym (ends_is c.args.self.now c.args.from c.args.to c.loop.counter c.loop.current c.apply-next.result i.current_is n) ∙ sym c.ends.ensures ∙ c.if-ends.false in
    let l : c.loop.counter < most_directions = omega (arith, c.loop-test.true) in
    let m = more_come _ _ _ _ _ _ _ _ i l e in
    let k = turned_so_far _ _ _ _ _ _ _ _ i in
    let f = c.in_err-push.ensures.full in
    absurd (omega (arith, m, k, f, i.grown, h))

pub returns-in_err-push-clause-capacity : goal.returns-in_err-push-clause-capacity
returns-in_err-push-clause-capacity g c = omega (arith, c.loop.invariant.grown, c.in_err-push.ensures.capacity)

pub loop-preserved : goal.loop-preserved
loop-preserved g c =
    let i = c.loop.invariant in
    let n : c.apply-next.result ≡ rotated c.args.self.now.step c.loop.current = search rules in
    let e : ends c.args.self.now c.args.from c.args.to c.loop.counter ≡ false =
    sym (ends_is c.args.self.now c.args.from c.args.to c.loop.counter c.loop.current c.apply-next.result i.current_is n) ∙ sym c.ends.ensures ∙ c.if-ends.false in
    let l : c.loop.counter < most_directions = omega (arith, c.loop-test.true) in
    rw (c.in_ok-push.ensures.items) (turning_goes _ _ _ _ _ _ _ _ _ _ i l n e c.in_ok-push.ensures.capacity)

pub returns-clause-ok : goal.returns-clause-ok
returns-clause-ok g c =
    let i = c.loop.invariant in
    turning_ends _ _ _ _ _ _ _ _ i (inl (omega (arith, c.loop-test.false, i.count)))

pub returns-clause-capacity : goal.returns-clause-capacity
returns-clause-capacity g c = c.loop.invariant.grown
