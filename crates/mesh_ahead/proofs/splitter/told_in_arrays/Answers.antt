use Rattle.std.proofs.Common.{subst, arith}
use Rattle.mesh_store.proofs.Lists.{if_ok}
use Rattle.mesh_ahead.specs.Ahead.{IsMadeAfter}
use Rattle.mesh_ahead.specs.Counting.{CountsAfter}
use Rattle.mesh_ahead.proofs.Attempts.{made_fewer}
use Rattle.mesh_ahead.proofs.InLine.{counts_from, cut_proper, if_some, made_from, uncut}
use Rattle.mesh_ahead.proofs.splitter.told_in_arrays.Goals as goal

pub returns-in_default-clause-made : goal.returns-in_default-clause-made
returns-in_default-clause-made c =
    if_ok c.told_after.result _ _
    (if_some _ _
    (λ told k.
    made_from c.args.edges.now c.args.edges.now 0 c.args.count.now c.told_after.new.count told.segments.items told.nearness c.requires (uncut c.args.edges.now) k))
    c.told_after.ensures.made

pub returns-in_default-clause-counted : goal.returns-in_default-clause-counted
returns-in_default-clause-counted c =
    counts_from c.args.edges.now c.args.edges.now 0 c.args.count.now c.told_after.new.count (uncut c.args.edges.now) c.told_after.ensures.counted

pub told_after-requires-2 : goal.told_after-requires-2
told_after-requires-2 c =
    rw c.deref.ensures.value (cut_proper c.args.edges.now c.in-Some.cut.edges.items c.in-Some.cut.splits c.requires (rw c.in-Some.is at c.in_ok-cut.ensures))

pub returns-clause-made : goal.returns-clause-made
returns-clause-made c =
    if_ok c.told_after-2.result _ _
    (if_some _ _
    (λ told k.
    made_from c.args.edges.now c.in-Some.cut.edges.items c.in-Some.cut.splits c.args.count.now c.told_after-2.new.count told.segments.items told.nearness c.requires (rw c.in-Some.is at c.in_ok-cut.ensures)
    (subst (λ es. IsMadeAfter c.in-Some.cut.splits es c.args.count.now c.told_after-2.new.count told.segments.items told.nearness) c.deref.ensures.value k)))
    c.told_after-2.ensures.made

pub returns-clause-counted : goal.returns-clause-counted
returns-clause-counted c =
    counts_from c.args.edges.now c.in-Some.cut.edges.items c.in-Some.cut.splits c.args.count.now c.told_after-2.new.count (rw c.in-Some.is at c.in_ok-cut.ensures)
    (subst (λ es. CountsAfter c.in-Some.cut.splits es c.args.count.now c.told_after-2.new.count) c.deref.ensures.value c.told_after-2.ensures.counted)

pub returns-then-is_convex_loop-clause-made : goal.returns-then-is_convex_loop-clause-made
returns-then-is_convex_loop-clause-made c =
    made_fewer 1 4 (omega arith) c.args.edges.now c.args.count.now c.told_of_convex_loop.new.count c.in_ok-told_of_convex_loop.field-0.segments.items c.in_ok-told_of_convex_loop.field-0.nearness c.in_ok-told_of_convex_loop.ensures.made
