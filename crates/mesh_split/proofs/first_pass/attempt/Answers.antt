use Rattle.std.proofs.Common.{◌∙◌, subst}
use Rattle.mesh_split.specs.Counting.{CountsAtMost}
use Rattle.mesh_split.specs.declared.count.SplitCount.{SplitCount}
use Rattle.mesh_split.proofs.Piles.{pile_again, pile_stepped}
use Rattle.mesh_split.proofs.Starting.{moved_less, popped_absent, popped_room}
use Rattle.mesh_split.proofs.first_pass.attempt.Goals as goal

pub settle_leashed-requires-clause-room : goal.settle_leashed-requires-clause-room
settle_leashed-requires-clause-room c =
    popped_room c.loop-s.splitter.todo c.pop.new.self c.loop-s.splitter.live c.in-Some.s c.in-Some.ensures.taken c.loop-s.invariant.pile.light

pub settle_leashed-requires-clause-absent : goal.settle_leashed-requires-clause-absent
settle_leashed-requires-clause-absent c =
    let s = c.loop-s.splitter in
    popped_absent c.args.edges.now s.log s.todo c.pop.new.self s.live c.in-Some.s c.in-Some.ensures.taken c.loop-s.invariant.pile.reached

pub loop-s-smaller : goal.loop-s-smaller
loop-s-smaller c =
    let s = c.loop-s.splitter in
    let t = c.settle_leashed.new.self in
    moved_less s.log t.log s.todo c.pop.new.self s.live t.todo t.live c.in-Some.s c.in-Some.ensures.taken c.in_ok-is_clear.ensures.moves

pub loop-s-preserved : goal.loop-s-preserved
loop-s-preserved c =
    let s = c.loop-s.splitter in
    let t = c.settle_leashed.new.self in
    let e = c.in_ok-is_clear.ensures in
    record {
      same = c.in_ok-check.ensures.same ∙ c.loop-s.invariant.same;
      pile = pile_stepped c.args.edges.now s.log t.log s.todo c.pop.new.self s.live t.todo t.live c.in-Some.s c.in-Some.ensures.taken e.moves c.loop-s.invariant.pile;
      clear = λ still. e.clear still c.loop-s.invariant.clear;
    }

pub returns-in_err-check-clause-counted : goal.returns-in_err-check-clause-counted
returns-in_err-check-clause-counted c =
    let s = c.loop-s.splitter in
    let t = c.settle_leashed.new.self in
    let pile = pile_stepped c.args.edges.now s.log t.log s.todo c.pop.new.self s.live t.todo t.live c.in-Some.s c.in-Some.ensures.taken c.in_ok-is_clear.ensures.moves c.loop-s.invariant.pile in
    subst (λ (n : SplitCount). CountsAtMost 1 c.args.edges.now n c.check.new.self) c.loop-s.invariant.same (c.in_err-check.ensures.counted c.args.edges.now pile.reached.legal)

pub returns-clause-pile : goal.returns-clause-pile
returns-clause-pile c =
    let s = c.loop-s.splitter in
    let t = c.in_ok-again.again in
    let e = c.in_ok-again.ensures in
    pile_again c.args.edges.now s.log t.log s.todo s.live t.todo t.live c.in_default.ensures.taken.0 e.todo e.live e.log c.loop-s.invariant.pile
