use Rattle.std.proofs.Common.{◌+◌, ◌*◌, arith, rules, subst, sym}
use Rattle.mesh_split.specs.Counting.{CountsAtMost}
use Rattle.mesh_split.specs.declared.count.SplitCount.{SplitCount}
use Rattle.mesh_split.proofs.Counts.{counts_both, counts_fewer, counts_none}
use Rattle.mesh_split.proofs.first_pass.first_pass.Goals as goal

pub returns-in_err-splitter-clause-counted : goal.returns-in_err-splitter-clause-counted
returns-in_err-splitter-clause-counted c =
    counts_fewer 1 45 (omega arith) c.args.edges.now c.args.count.now c.attempt.new.count c.attempt.ensures.counted

pub loop-draw-init : goal.loop-draw-init
loop-draw-init c =
    record {
      counted = subst (λ (n : SplitCount). CountsAtMost 0 c.args.edges.now c.args.count.now n) (sym c.in_ok-splitter.ensures.same) (counts_none 0 c.args.edges.now c.args.count.now (search rules));
      pile = c.in_ok-splitter.ensures.pile;
      clear = c.in_ok-splitter.ensures.clear;
    }

pub loop-draw-preserved : goal.loop-draw-preserved
loop-draw-preserved c =
    let given = c.args.edges.now in
    let i = c.loop-draw._draw in
    record {
      counted =
          counts_fewer (4 * i + 1 + 3) (4 * (i + 1)) (omega arith) given c.args.count.now c.attempt_anew.new.count
          (counts_both (4 * i + 1) 3 given c.args.count.now c.add.new.self c.attempt_anew.new.count
          (counts_both (4 * i) 1 given c.args.count.now c.loop-draw.count c.add.new.self c.loop-draw.invariant.counted (c.add.ensures.counted given c.loop-draw.invariant.pile.reached.legal).counts)
          c.in_ok-splitter-2.ensures.kept);
      pile = c.in_ok-splitter-2.ensures.pile;
      clear = c.in_ok-splitter-2.ensures.clear;
    }

pub returns-in_err-add-clause-counted : goal.returns-in_err-add-clause-counted
returns-in_err-add-clause-counted c =
    let given = c.args.edges.now in
    let i = c.loop-draw._draw in
    counts_fewer (4 * i + 1) 45 (omega arith) given c.args.count.now c.add.new.self
    (counts_both (4 * i) 1 given c.args.count.now c.loop-draw.count c.add.new.self c.loop-draw.invariant.counted (c.add.ensures.counted given c.loop-draw.invariant.pile.reached.legal).counts)

pub returns-in_err-draw-clause-counted : goal.returns-in_err-draw-clause-counted
returns-in_err-draw-clause-counted c =
    let given = c.args.edges.now in
    let i = c.loop-draw._draw in
    counts_fewer (4 * i + 1) 45 (omega arith) given c.args.count.now c.add.new.self
    (counts_both (4 * i) 1 given c.args.count.now c.loop-draw.count c.add.new.self c.loop-draw.invariant.counted (c.add.ensures.counted given c.loop-draw.invariant.pile.reached.legal).counts)

pub returns-in_err-noted-clause-counted : goal.returns-in_err-noted-clause-counted
returns-in_err-noted-clause-counted c =
    let given = c.args.edges.now in
    let i = c.loop-draw._draw in
    counts_fewer (4 * i + 1) 45 (omega arith) given c.args.count.now c.add.new.self
    (counts_both (4 * i) 1 given c.args.count.now c.loop-draw.count c.add.new.self c.loop-draw.invariant.counted (c.add.ensures.counted given c.loop-draw.invariant.pile.reached.legal).counts)

pub returns-in_err-splitter-2-clause-counted : goal.returns-in_err-splitter-2-clause-counted
returns-in_err-splitter-2-clause-counted c =
    let given = c.args.edges.now in
    let i = c.loop-draw._draw in
    counts_fewer (4 * i + 1 + 4) 45 (omega arith) given c.args.count.now c.attempt_anew.new.count
    (counts_both (4 * i + 1) 4 given c.args.count.now c.add.new.self c.attempt_anew.new.count
    (counts_both (4 * i) 1 given c.args.count.now c.loop-draw.count c.add.new.self c.loop-draw.invariant.counted (c.add.ensures.counted given c.loop-draw.invariant.pile.reached.legal).counts)
    c.attempt_anew.ensures.counted)

pub returns-then-not-wants_another-clause-counted : goal.returns-then-not-wants_another-clause-counted
returns-then-not-wants_another-clause-counted c =
    let given = c.args.edges.now in
    let i = c.loop-draw._draw in
    counts_fewer (4 * i) 45 (omega arith) given c.args.count.now c.loop-draw.count c.loop-draw.invariant.counted

pub returns-then-not-wants_another-clause-kept : goal.returns-then-not-wants_another-clause-kept
returns-then-not-wants_another-clause-kept c =
    let given = c.args.edges.now in
    let i = c.loop-draw._draw in
    counts_fewer (4 * i) 44 (omega arith) given c.args.count.now c.loop-draw.count c.loop-draw.invariant.counted

pub returns-clause-counted : goal.returns-clause-counted
returns-clause-counted c =
    let given = c.args.edges.now in
    let i = c.loop-draw._draw in
    counts_fewer (4 * i) 45 (omega arith) given c.args.count.now c.loop-draw.count c.loop-draw.invariant.counted

pub returns-clause-kept : goal.returns-clause-kept
returns-clause-kept c =
    let given = c.args.edges.now in
    let i = c.loop-draw._draw in
    counts_fewer (4 * i) 44 (omega arith) given c.args.count.now c.loop-draw.count c.loop-draw.invariant.counted

pub attempt_anew-requires-clause-among : goal.attempt_anew-requires-clause-among
attempt_anew-requires-clause-among c = rw c.deref.ensures.value c.in_ok-noted.ensures
