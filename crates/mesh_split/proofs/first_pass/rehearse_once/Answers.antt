use Rattle.std.proofs.Common.{subst}
use Rattle.mesh_split.specs.Counting.{CountsAtMost}
use Rattle.mesh_split.specs.declared.count.SplitCount.{SplitCount}
use Rattle.mesh_split.proofs.first_pass.rehearse_once.Goals as goal

pub returns-in_err-add-clause-counted : goal.returns-in_err-add-clause-counted
returns-in_err-add-clause-counted c =
    let s = c.in_ok-splitter in
    subst (λ (n : SplitCount). CountsAtMost 1 c.args.noted.now n c.add.new.self) s.ensures.same (c.add.ensures.counted c.args.noted.now s.ensures.pile.reached.legal).counts

pub returns-in_err-draw-clause-counted : goal.returns-in_err-draw-clause-counted
returns-in_err-draw-clause-counted c =
    let s = c.in_ok-splitter in
    subst (λ (n : SplitCount). CountsAtMost 1 c.args.noted.now n c.add.new.self) s.ensures.same (c.add.ensures.counted c.args.noted.now s.ensures.pile.reached.legal).counts

pub returns-clause-counted : goal.returns-clause-counted
returns-clause-counted c =
    let s = c.in_ok-splitter in
    subst (λ (n : SplitCount). CountsAtMost 1 c.args.noted.now n c.add.new.self) s.ensures.same (c.add.ensures.counted c.args.noted.now s.ensures.pile.reached.legal).counts
