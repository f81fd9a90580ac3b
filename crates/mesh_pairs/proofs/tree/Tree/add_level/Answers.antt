use Rattle.std.proofs.Common.{ℕ, ◌+◌, ◌*◌, ◌≤◌, length, arith}
use Rattle.mesh_pairs.specs.declared.tree.Below.{Below}
use Rattle.mesh_pairs.specs.declared.tree.Tree.{Tree}
use Rattle.mesh_pairs.proofs.Levels.{raised_all, raised_more, raised_none}
use Rattle.mesh_pairs.proofs.Trees.{over_made, IsOver}
use Rattle.mesh_pairs.proofs.tree.Tree.add_level.Goals as goal

pub loop-place-init : goal.loop-place-init
loop-place-init c = raised_none c.args.self.now c.args.start c.args.end c.requires.all c.requires.runs c.requires.blocks c.requires.under

pub loop-place-preserved : goal.loop-place-preserved
loop-place-preserved c =
    let t : Tree = c.loop-place.self in
    let place : ℕ = c.loop-place.place in
    let v = c.loop-place.invariant in
    let b = c.block_over-block.result in
    let from : ℕ = c.args.start + place * 8 in
    let x : Below = record { first = from; last = c.last_below-last.result } in
    let within : c.min-to.result ≤ length t.blocks.items = omega (arith, v.many) in
    let above : t.runs ≤ length t.blocks.items = omega (arith, v.many, v.same, c.requires.above) in
    let over : IsOver t b x from c.min-to.result =
    over_made t b x c.deref.result.now c.deref-in-loop-place.result.now from c.min-to.result v.blocks c.deref.ensures.value c.deref-in-loop-place.ensures.value within above
    (λ _. from) c.block_over-block.ensures.lanes c.block_over-block.ensures.covers c.block_over-block.ensures.small c.last_below-last.ensures
    in
    raised_more c.args.self.now t c.push.new.self b x c.args.start c.args.end place c.min-to.result c.requires.above v c.in_ok-push.ensures over (λ k p l. omega arith)

pub returns-clause-under : goal.returns-clause-under
returns-clause-under c =
    raised_all c.args.self.now c.loop-place.self c.args.start c.args.end c.loop-place.place c.loop-place.invariant (omega (arith, c.loop-place-test.false))
