use Rattle.std.proofs.Common.{arith, subst, sym}
use Rattle.mesh_split.specs.Counting.{CountsAtMost}
use Rattle.mesh_split.specs.declared.count.SplitCount.{SplitCount}
use Rattle.mesh_split.proofs.Among.{counts_among, proper_among}
use Rattle.mesh_split.proofs.Counts.{counts_both, counts_fewer}
use Rattle.mesh_store.proofs.Lists.{on_ok}
use Rattle.mesh_split.proofs.first_pass.attempt_anew.Goals as goal

pub rehearse-requires : goal.rehearse-requires
rehearse-requires c = proper_among c.args.noted.now c.args.edges.now c.requires.among c.requires.proper

pub returns-in_err-rehearse-clause-counted : goal.returns-in_err-rehearse-clause-counted
returns-in_err-rehearse-clause-counted c =
    counts_fewer 3 4 (omega arith) c.args.edges.now c.args.count.now c.rehearse.new.count
    (counts_among 3 c.args.noted.now c.args.edges.now c.requires.among c.args.count.now c.rehearse.new.count c.rehearse.ensures.counted)

pub returns-clause-counted : goal.returns-clause-counted
returns-clause-counted c =
    counts_both 3 1 c.args.edges.now c.args.count.now c.rehearse.new.count c.attempt.new.count
    (counts_among 3 c.args.noted.now c.args.edges.now c.requires.among c.args.count.now c.rehearse.new.count c.rehearse.ensures.counted)
    c.attempt.ensures.counted

pub returns-clause-kept : goal.returns-clause-kept
returns-clause-kept c =
    on_ok c.attempt.result
    (λ same. subst (λ (n : SplitCount). CountsAtMost 3 c.args.edges.now c.args.count.now n) (sym same)
    (counts_among 3 c.args.noted.now c.args.edges.now c.requires.among c.args.count.now c.rehearse.new.count c.rehearse.ensures.counted))
    c.attempt.ensures.same
