use Rattle.std.proofs.Common.{◌+◌, arith}
use Rattle.mesh_split.proofs.Counts.{counts_both, counts_fewer}
use Rattle.mesh_split.proofs.first_pass.rehearse.Goals as goal

pub loop-rehearsal-preserved : goal.loop-rehearsal-preserved
loop-rehearsal-preserved c =
    counts_both c.loop-rehearsal._rehearsal 1 c.args.noted.now c.args.count.now c.loop-rehearsal.count c.rehearse_once.new.count c.loop-rehearsal.invariant c.rehearse_once.ensures.counted

pub returns-in_err-rehearse_once-clause-counted : goal.returns-in_err-rehearse_once-clause-counted
returns-in_err-rehearse_once-clause-counted c =
    counts_fewer (c.loop-rehearsal._rehearsal + 1) 3 (omega arith) c.args.noted.now c.args.count.now c.rehearse_once.new.count
    (counts_both c.loop-rehearsal._rehearsal 1 c.args.noted.now c.args.count.now c.loop-rehearsal.count c.rehearse_once.new.count c.loop-rehearsal.invariant c.rehearse_once.ensures.counted)

pub returns-then-not-branch-clause-counted : goal.returns-then-not-branch-clause-counted
returns-then-not-branch-clause-counted c =
    counts_fewer (c.loop-rehearsal._rehearsal + 1) 3 (omega arith) c.args.noted.now c.args.count.now c.rehearse_once.new.count
    (counts_both c.loop-rehearsal._rehearsal 1 c.args.noted.now c.args.count.now c.loop-rehearsal.count c.rehearse_once.new.count c.loop-rehearsal.invariant c.rehearse_once.ensures.counted)
