use Rattle.std.proofs.Common.{rules, refl, arith, ◌+◌}
use Rattle.mesh_ahead.proofs.InLine.{cut_more, each_fewer}
use Rattle.mesh_ahead.proofs.settling.settle_anew.Goals as goal

pub returns-in_err-count_on-clause-counted : goal.returns-in_err-count_on-clause-counted
returns-in_err-count_on-clause-counted c =
    each_fewer (c.loop-time._time + 1) 3 (omega arith) c.args.before c.args.edges.now c.args.count.now c.count_on.new.count
    (cut_more c.loop-time._time c.args.before c.args.edges.now c.loop-time.cut c.made.result.now _ c.saturating_add.result c.args.count.now c.loop-time.count c.count_on.new.count
    c.loop-time.invariant.counted c.loop-time.invariant.cut c.made.ensures refl (search rules) c.count_on.ensures.sum)

pub returns-in_err-again-clause-counted : goal.returns-in_err-again-clause-counted
returns-in_err-again-clause-counted c =
    each_fewer (c.loop-time._time + 1) 3 (omega arith) c.args.before c.args.edges.now c.args.count.now c.count_on.new.count
    (cut_more c.loop-time._time c.args.before c.args.edges.now c.loop-time.cut c.made.result.now _ c.saturating_add.result c.args.count.now c.loop-time.count c.count_on.new.count
    c.loop-time.invariant.counted c.loop-time.invariant.cut c.made.ensures refl (search rules) c.count_on.ensures.sum)

pub returns-in_default-2-clause-counted : goal.returns-in_default-2-clause-counted
returns-in_default-2-clause-counted c =
    each_fewer (c.loop-time._time + 1) 3 (omega arith) c.args.before c.args.edges.now c.args.count.now c.count_on.new.count
    (cut_more c.loop-time._time c.args.before c.args.edges.now c.loop-time.cut c.made.result.now _ c.saturating_add.result c.args.count.now c.loop-time.count c.count_on.new.count
    c.loop-time.invariant.counted c.loop-time.invariant.cut c.made.ensures refl (search rules) c.count_on.ensures.sum)

pub returns-in_err-verdict-clause-counted : goal.returns-in_err-verdict-clause-counted
returns-in_err-verdict-clause-counted c =
    each_fewer (c.loop-time._time + 1) 3 (omega arith) c.args.before c.args.edges.now c.args.count.now c.count_on.new.count
    (cut_more c.loop-time._time c.args.before c.args.edges.now c.loop-time.cut c.made.result.now _ c.saturating_add.result c.args.count.now c.loop-time.count c.count_on.new.count
    c.loop-time.invariant.counted c.loop-time.invariant.cut c.made.ensures refl (search rules) c.count_on.ensures.sum)

pub loop-time-preserved : goal.loop-time-preserved
loop-time-preserved c = record {
  cut = c.in_ok-verdict.ensures.cut c.args.edges.now ((rw c.in-Some-2.is at c.in_ok-again.ensures) c.args.edges.now c.loop-time.invariant.cut);
  clear = c.in_ok-verdict.ensures.clear;
  counted =
      cut_more c.loop-time._time c.args.before c.args.edges.now c.loop-time.cut c.made.result.now _ c.saturating_add.result c.args.count.now c.loop-time.count c.count_on.new.count
      c.loop-time.invariant.counted c.loop-time.invariant.cut c.made.ensures refl (search rules) c.count_on.ensures.sum;
}
