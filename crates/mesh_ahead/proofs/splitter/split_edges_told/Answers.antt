use Rattle.std.proofs.Common.{rules, arith}
use Rattle.mesh_split.proofs.Counts.{counts_both}
use Rattle.mesh_store.proofs.Lists.{if_ok}
use Rattle.mesh_ahead.proofs.Attempts.{made_after, made_fewer}
use Rattle.mesh_ahead.proofs.splitter.split_edges_told.Goals as goal

pub returns-in-Some-clause-standing : goal.returns-in-Some-clause-standing
returns-in-Some-clause-standing c =
    made_fewer 4 51 (omega arith) c.args.edges.now c.args.count.now c.told_in_arrays.new.count c.in-Some.told.segments.items c.in-Some.told.nearness (search rules)

pub returns-clause-standing : goal.returns-clause-standing
returns-clause-standing c =
    if_ok c.split_edges_told.result _ _
    (λ told k. made_after c.args.edges.now c.args.count.now c.told_in_arrays.new.count c.split_edges_told.new.count told.segments.items told.nearness c.told_in_arrays.ensures.counted k)
    c.split_edges_told.ensures.standing

pub returns-clause-counted : goal.returns-clause-counted
returns-clause-counted c =
    counts_both 4 47 c.args.edges.now c.args.count.now c.told_in_arrays.new.count c.split_edges_told.new.count c.told_in_arrays.ensures.counted c.split_edges_told.ensures.counted

pub returns-in-Some-clause-splitting : goal.returns-in-Some-clause-splitting
returns-in-Some-clause-splitting c = (search rules)
