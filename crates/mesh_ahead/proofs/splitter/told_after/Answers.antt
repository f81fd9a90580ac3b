use Rattle.std.proofs.Common.{rules, refl}
use Rattle.mesh_ahead.proofs.InLine.{cut_more, made_more}
use Rattle.mesh_ahead.proofs.splitter.told_after.Goals as goal

pub returns-in_err-count_on-clause-counted : goal.returns-in_err-count_on-clause-counted
returns-in_err-count_on-clause-counted c =
    cut_more 3 c.args.before c.args.edges.now c.in-Some.cut c.made.result.now _ c.saturating_add.result c.args.count.now c.cut_and_settled.new.count c.count_on.new.count
    c.cut_and_settled.ensures.counted (search rules) c.made.ensures refl (search rules) c.count_on.ensures.sum

pub returns-then-not-clear-clause-counted : goal.returns-then-not-clear-clause-counted
returns-then-not-clear-clause-counted c =
    cut_more 3 c.args.before c.args.edges.now c.in-Some.cut c.made.result.now _ c.saturating_add.result c.args.count.now c.cut_and_settled.new.count c.count_on.new.count
    c.cut_and_settled.ensures.counted (search rules) c.made.ensures refl (search rules) c.count_on.ensures.sum

pub returns-in_err-segments-clause-counted : goal.returns-in_err-segments-clause-counted
returns-in_err-segments-clause-counted c =
    cut_more 3 c.args.before c.args.edges.now c.in-Some.cut c.made.result.now _ c.saturating_add.result c.args.count.now c.cut_and_settled.new.count c.count_on.new.count
    c.cut_and_settled.ensures.counted (search rules) c.made.ensures refl (search rules) c.count_on.ensures.sum

pub returns-clause-counted : goal.returns-clause-counted
returns-clause-counted c =
    cut_more 3 c.args.before c.args.edges.now c.in-Some.cut c.made.result.now _ c.saturating_add.result c.args.count.now c.cut_and_settled.new.count c.count_on.new.count
    c.cut_and_settled.ensures.counted (search rules) c.made.ensures refl (search rules) c.count_on.ensures.sum

pub returns-clause-made : goal.returns-clause-made
returns-clause-made c =
    made_more c.args.before c.args.edges.now c.in-Some.cut c.made.result.now _ c.saturating_add.result c.args.count.now c.cut_and_settled.new.count c.count_on.new.count
    c.in_ok-segments.segments.items c.nearness-nearness.result (search rules) c.cut_and_settled.ensures.counted c.made.ensures refl (search rules) c.count_on.ensures.sum
    c.in_ok-segments.ensures.settled c.nearness-nearness.ensures.near

pub segments_of-requires-clause-clear : goal.segments_of-requires-clause-clear
segments_of-requires-clause-clear c = (rw c.in-Some.is at c.in_ok-cut.ensures.clear) c.if-not-clear.false
