use Rattle.std.proofs.Common.{subst, sym, List}
use Rattle.mesh_lattice.specs.Counted.{Counted}
use Rattle.mesh_split.specs.Counting.{CountsAtMost}
use Rattle.mesh_store.specs.Steps.{IsPile}
use Rattle.mesh_split.specs.declared.count.SplitCount.{SplitCount}
use Rattle.mesh_split.proofs.Counts.{counts_both, counts_with}
use Rattle.mesh_split.proofs.Piles.{pile_settled}
use Rattle.mesh_split.proofs.Starting.{settled_less, popped_room, popped_absent}
use Rattle.mesh_rounds.proofs.splitter.settled_one_by_one.Goals as goal

pub loop-s-init : goal.loop-s-init
loop-s-init c = record { counted = c.in_ok-splitter.ensures.kept; pile = c.in_ok-splitter.ensures.pile; clear = c.in_ok-splitter.ensures.clear }

pub settle-requires-clause-room : goal.settle-requires-clause-room
settle-requires-clause-room c =
    popped_room c.loop-s.splitter.todo c.pop.new.self c.loop-s.splitter.live c.in-Some.s c.in-Some.ensures.taken c.loop-s.invariant.pile.light

pub settle-requires-clause-absent : goal.settle-requires-clause-absent
settle-requires-clause-absent c =
    let s = c.loop-s.splitter in
    popped_absent c.args.edges.now s.log s.todo c.pop.new.self s.live c.in-Some.s c.in-Some.ensures.taken c.loop-s.invariant.pile.reached

pub loop-s-smaller : goal.loop-s-smaller
loop-s-smaller c =
    let s = c.loop-s.splitter in
    let t = c.settle.new.self in
    settled_less s.log t.log s.todo c.pop.new.self s.live t.todo t.live c.in-Some.s c.in-Some.ensures.taken c.in_ok-settle.ensures

pub loop-s-preserved : goal.loop-s-preserved
loop-s-preserved c =
    let s = c.loop-s.splitter in
    let t = c.settle.new.self in
    record {
      counted = subst (λ (n : SplitCount). CountsAtMost 44 c.args.edges.now c.args.count.now n) (sym c.in_ok-check.ensures.same) c.loop-s.invariant.counted;
      pile = pile_settled c.args.edges.now s.log t.log s.todo c.pop.new.self s.live t.todo t.live c.in-Some.s c.in-Some.ensures.taken c.in_ok-settle.ensures c.loop-s.invariant.pile;
      clear = c.in_ok-settle.ensures.clear c.loop-s.invariant.clear;
    }

pub returns-in_err-check-clause-counted : goal.returns-in_err-check-clause-counted
returns-in_err-check-clause-counted c =
    let s = c.loop-s.splitter in
    let t = c.settle.new.self in
    let pile = pile_settled c.args.edges.now s.log t.log s.todo c.pop.new.self s.live t.todo t.live c.in-Some.s c.in-Some.ensures.taken c.in_ok-settle.ensures c.loop-s.invariant.pile in
    counts_both 44 1 c.args.edges.now c.args.count.now c.loop-s.count c.check.new.self c.loop-s.invariant.counted
    (c.in_err-check.ensures.counted c.args.edges.now pile.reached.legal)

pub returns-in_err-add-clause-counted : goal.returns-in_err-add-clause-counted
returns-in_err-add-clause-counted c =
    counts_both 44 1 c.args.edges.now c.args.count.now c.loop-s.count c.add.new.self c.loop-s.invariant.counted
    (c.add.ensures.counted c.args.edges.now c.loop-s.invariant.pile.reached.legal).counts

pub returns-in_err-segments-clause-counted : goal.returns-in_err-segments-clause-counted
returns-in_err-segments-clause-counted c =
    counts_both 44 1 c.args.edges.now c.args.count.now c.loop-s.count c.add.new.self c.loop-s.invariant.counted
    (c.add.ensures.counted c.args.edges.now c.loop-s.invariant.pile.reached.legal).counts

pub returns-clause-counted : goal.returns-clause-counted
returns-clause-counted c =
    counts_both 44 1 c.args.edges.now c.args.count.now c.loop-s.count c.add.new.self c.loop-s.invariant.counted
    (c.add.ensures.counted c.args.edges.now c.loop-s.invariant.pile.reached.legal).counts

pub returns-clause-settled : goal.returns-clause-settled
returns-clause-settled c =
    let s = c.loop-s.splitter in
    rw c.in_ok-segments.ensures
    (record {
      pile = subst (λ (todo : List Counted). IsPile c.args.edges.now s.log todo s.live) c.in_default.ensures.taken.0 c.loop-s.invariant.pile;
      clear = c.loop-s.invariant.clear;
    })

pub returns-clause-standing : goal.returns-clause-standing
returns-clause-standing c =
    counts_with 44 1 c.args.edges.now c.args.count.now c.loop-s.count c.add.new.self c.loop-s.splitter.log c.loop-s.invariant.counted
    (c.add.ensures.counted c.args.edges.now c.loop-s.invariant.pile.reached.legal)
