use Rattle.std.proofs.Common.{refl, ◌∙◌, subst}
use Rattle.mesh_split.specs.Counting.{CountsAtMost}
use Rattle.mesh_split.specs.declared.count.SplitCount.{SplitCount}
use Rattle.mesh_split.proofs.Piles.{pile_once}
use Rattle.mesh_split.proofs.first_pass.split_noted.Goals as goal

pub take_up-requires : goal.take_up-requires
take_up-requires c =
    let s = c.in_ok-splitter.splitter in
    pile_once c.args.edges.now s.log s.todo s.live c.in_ok-splitter.ensures.pile

pub loop-split-init : goal.loop-split-init
loop-split-init c = record {
  same = refl;
  pile = c.in_ok-take_up.ensures c.args.edges.now c.in_ok-splitter.ensures.pile;
}

pub take_up-requires-in-loop-split : goal.take_up-requires-in-loop-split
take_up-requires-in-loop-split c =
    pile_once c.args.edges.now c.split_live.new.self.log c.split_live.new.self.todo c.split_live.new.self.live (c.in_ok-split_live.ensures c.args.edges.now c.loop-split.invariant.pile)

pub loop-split-preserved : goal.loop-split-preserved
loop-split-preserved c =
    let pile = c.in_ok-split_live.ensures c.args.edges.now c.loop-split.invariant.pile in
    record {
      same = c.in_ok-check.ensures.same ∙ c.loop-split.invariant.same;
      pile = c.in_ok-take_up-2.ensures c.args.edges.now pile;
    }

pub returns-in_err-check-clause-counted : goal.returns-in_err-check-clause-counted
returns-in_err-check-clause-counted c =
    let pile = c.in_ok-split_live.ensures c.args.edges.now c.loop-split.invariant.pile in
    subst (λ (n : SplitCount). CountsAtMost 1 c.args.edges.now n c.check.new.self) c.loop-split.invariant.same (c.in_err-check.ensures.counted c.args.edges.now pile.reached.legal)
