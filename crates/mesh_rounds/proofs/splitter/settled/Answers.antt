use Rattle.std.proofs.Common.{arith}
use Rattle.mesh_split.proofs.Counts.{counts_both, counts_fewer, counts_with, with_fewer}
use Rattle.mesh_store.proofs.Lists.{if_ok}
use Rattle.mesh_rounds.proofs.splitter.settled.Goals as goal

pub returns-in_err-settled-clause-counted : goal.returns-in_err-settled-clause-counted
returns-in_err-settled-clause-counted c = counts_fewer 2 47 (omega arith) c.args.edges.now c.args.count.now c.split_in_rounds.new.count c.split_in_rounds.ensures.counted

pub returns-clause-counted : goal.returns-clause-counted
returns-clause-counted c = counts_fewer 2 47 (omega arith) c.args.edges.now c.args.count.now c.split_in_rounds.new.count c.split_in_rounds.ensures.counted

pub returns-clause-standing : goal.returns-clause-standing
returns-clause-standing c = with_fewer 2 47 (omega arith) c.args.edges.now c.args.count.now c.split_in_rounds.new.count c.in-Some.settled.log (rw c.in-Some.is at c.in_ok-settled.ensures.standing)

pub returns-in_default-clause-counted : goal.returns-in_default-clause-counted
returns-in_default-clause-counted c =
    counts_both 2 45 c.args.edges.now c.args.count.now c.split_in_rounds.new.count c.settled_one_by_one.new.count c.split_in_rounds.ensures.counted c.settled_one_by_one.ensures.counted

pub returns-in_default-clause-standing : goal.returns-in_default-clause-standing
returns-in_default-clause-standing c =
    if_ok c.settled_one_by_one.result _ _
    (λ s k. counts_with 2 45 c.args.edges.now c.args.count.now c.split_in_rounds.new.count c.settled_one_by_one.new.count s.log c.split_in_rounds.ensures.counted k)
    c.settled_one_by_one.ensures.standing
