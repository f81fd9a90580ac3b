use Rattle.std.proofs.Common.{◌≡◌, ◌≤◌, ◌⊎◌, ℕ, List, ◌∙◌, arith, inl, inr, length, refl, rules, subst, sym}
use Rattle.mesh_plane.specs.Plane.{Edge}
use Rattle.mesh_split.specs.Counting.{CountsAtMost}
use Rattle.mesh_split.specs.declared.count.SplitCount.{SplitCount}
use Rattle.mesh_split.proofs.Counts.{counts_both, counts_fewer, counts_none, counts_with}
use Rattle.mesh_rounds.proofs.Rounding.{nothing_fresh, rounds_settled}
use Rattle.mesh_rounds.proofs.rounds.split_in_rounds.Goals as goal

-- a count after a turn: only one of the turns begins anew
after_restart : (given : List Edge) (first old new : SplitCount) (turn : ℕ) → (turn ≤ 12 → old ≡ first) → CountsAtMost 1 given first old →
    ((turn ≡ 12 → ⊥) → new ≡ old) → CountsAtMost 1 given old new → CountsAtMost 1 given first new
after_restart given first old new turn none counted same anew = by (grind arith)
  where
    by : ((turn ≡ 12) ⊎ (turn ≡ 12 → ⊥)) → CountsAtMost 1 given first new
    by (inl e) = subst (λ (n : SplitCount). CountsAtMost 1 given n new) (none (omega (arith, e))) anew
    by (inr e) = subst (λ (n : SplitCount). CountsAtMost 1 given first n) (sym (same e)) counted

after_go : (given : List Edge) (first old now new : SplitCount) (turn : ℕ) → (turn ≤ 12 → old ≡ first) → CountsAtMost 1 given first old →
    ((turn ≡ 12 → ⊥) → now ≡ old) → CountsAtMost 1 given old now → new ≡ now → CountsAtMost 1 given first new
after_go given first old now new turn none counted same anew end =
    subst (λ (n : SplitCount). CountsAtMost 1 given first n) (sym end) (after_restart given first old now turn none counted same anew)

pub returns-then-not-branch-clause-counted : goal.returns-then-not-branch-clause-counted
returns-then-not-branch-clause-counted c = counts_none 2 c.args.edges.now c.args.count.now (search rules)

pub loop-turn-init : goal.loop-turn-init
loop-turn-init c = record { none = λ _. refl; counted = counts_none 1 c.args.edges.now c.args.count.now (search rules); round = c.in_ok-rounds.ensures }

pub returns-in_err-restart-clause-counted : goal.returns-in_err-restart-clause-counted
returns-in_err-restart-clause-counted c = counts_fewer 1 2 (omega arith) c.args.edges.now c.args.count.now c.restart.new.count
    (after_restart c.args.edges.now c.args.count.now c.loop-turn.count c.restart.new.count c.loop-turn.turn c.loop-turn.invariant.none c.loop-turn.invariant.counted c.restart.ensures.same c.restart.ensures.counted)

pub returns-in_err-go_on-clause-counted : goal.returns-in_err-go_on-clause-counted
returns-in_err-go_on-clause-counted c = counts_both 1 1 c.args.edges.now c.args.count.now c.restart.new.count c.go_on.new.count
    (after_restart c.args.edges.now c.args.count.now c.loop-turn.count c.restart.new.count c.loop-turn.turn c.loop-turn.invariant.none c.loop-turn.invariant.counted c.restart.ensures.same c.restart.ensures.counted) c.go_on.ensures.counted

pub returns-in_err-add-clause-counted : goal.returns-in_err-add-clause-counted
returns-in_err-add-clause-counted c =
    counts_both 1 1 c.args.edges.now c.args.count.now c.go_on.new.count c.add.new.self (after_go c.args.edges.now c.args.count.now c.loop-turn.count c.restart.new.count c.go_on.new.count c.loop-turn.turn c.loop-turn.invariant.none c.loop-turn.invariant.counted c.restart.ensures.same c.restart.ensures.counted c.in_ok-go_on.ensures.same)
    (c.add.ensures.counted c.args.edges.now c.in_ok-go_on.ensures.legal).counts

pub returns-then-not-branch-2-clause-counted : goal.returns-then-not-branch-2-clause-counted
returns-then-not-branch-2-clause-counted c =
    counts_both 1 1 c.args.edges.now c.args.count.now c.go_on.new.count c.add.new.self (after_go c.args.edges.now c.args.count.now c.loop-turn.count c.restart.new.count c.go_on.new.count c.loop-turn.turn c.loop-turn.invariant.none c.loop-turn.invariant.counted c.restart.ensures.same c.restart.ensures.counted c.in_ok-go_on.ensures.same)
    (c.add.ensures.counted c.args.edges.now c.in_ok-go_on.ensures.legal).counts

pub returns-in_err-add-2-clause-counted : goal.returns-in_err-add-2-clause-counted
returns-in_err-add-2-clause-counted c =
    counts_both 1 1 c.args.edges.now c.args.count.now c.go_on.new.count c.add-then-fresh-eq0.new.self (after_go c.args.edges.now c.args.count.now c.loop-turn.count c.restart.new.count c.go_on.new.count c.loop-turn.turn c.loop-turn.invariant.none c.loop-turn.invariant.counted c.restart.ensures.same c.restart.ensures.counted c.in_ok-go_on.ensures.same)
    (c.add-then-fresh-eq0.ensures.counted c.args.edges.now c.in_ok-go_on.ensures.legal).counts

pub returns-in_err-settled-clause-counted : goal.returns-in_err-settled-clause-counted
returns-in_err-settled-clause-counted c =
    counts_both 1 1 c.args.edges.now c.args.count.now c.go_on.new.count c.add-then-fresh-eq0.new.self (after_go c.args.edges.now c.args.count.now c.loop-turn.count c.restart.new.count c.go_on.new.count c.loop-turn.turn c.loop-turn.invariant.none c.loop-turn.invariant.counted c.restart.ensures.same c.restart.ensures.counted c.in_ok-go_on.ensures.same)
    (c.add-then-fresh-eq0.ensures.counted c.args.edges.now c.in_ok-go_on.ensures.legal).counts

pub returns-then-fresh-eq0-clause-settled : goal.returns-then-fresh-eq0-clause-settled
returns-then-fresh-eq0-clause-settled c =
    let r = c.go_on.new.self in
    let kept = c.in_ok-go_on.ensures.kept c.if-not-branch-2.false in
    let none : length c.deref-fresh.result.now ≡ 0 = omega (arith, c.if-fresh-eq0.true) in
    rw (c.in_ok-settled.ensures.segments, c.in_ok-settled.ensures.log)
    (rounds_settled c.args.edges.now r.splitter.log r.splitter.todo r.splitter.live r.fresh.items kept.none_lives (nothing_fresh r.fresh.items (rw c.deref-fresh.ensures.value at none)) kept.pile kept.clear)

pub returns-then-fresh-eq0-clause-counted : goal.returns-then-fresh-eq0-clause-counted
returns-then-fresh-eq0-clause-counted c =
    counts_both 1 1 c.args.edges.now c.args.count.now c.go_on.new.count c.add-then-fresh-eq0.new.self (after_go c.args.edges.now c.args.count.now c.loop-turn.count c.restart.new.count c.go_on.new.count c.loop-turn.turn c.loop-turn.invariant.none c.loop-turn.invariant.counted c.restart.ensures.same c.restart.ensures.counted c.in_ok-go_on.ensures.same)
    (c.add-then-fresh-eq0.ensures.counted c.args.edges.now c.in_ok-go_on.ensures.legal).counts

pub returns-then-fresh-eq0-clause-standing : goal.returns-then-fresh-eq0-clause-standing
returns-then-fresh-eq0-clause-standing c =
    rw c.in_ok-settled.ensures.log
    (counts_with 1 1 c.args.edges.now c.args.count.now c.go_on.new.count c.add-then-fresh-eq0.new.self c.go_on.new.self.splitter.log (after_go c.args.edges.now c.args.count.now c.loop-turn.count c.restart.new.count c.go_on.new.count c.loop-turn.turn c.loop-turn.invariant.none c.loop-turn.invariant.counted c.restart.ensures.same c.restart.ensures.counted c.in_ok-go_on.ensures.same)
    (c.add-then-fresh-eq0.ensures.counted c.args.edges.now c.in_ok-go_on.ensures.legal))

pub loop-turn-preserved : goal.loop-turn-preserved
loop-turn-preserved c = record {
  none = λ low. c.in_ok-go_on.ensures.same ∙ (c.restart.ensures.same (λ e. omega (arith, e, low)) ∙ c.loop-turn.invariant.none (omega (arith, low)));
  counted = after_go c.args.edges.now c.args.count.now c.loop-turn.count c.restart.new.count c.go_on.new.count c.loop-turn.turn c.loop-turn.invariant.none c.loop-turn.invariant.counted c.restart.ensures.same c.restart.ensures.counted c.in_ok-go_on.ensures.same;
  round = c.in_ok-go_on.ensures.kept c.if-not-branch-2.false;
}

pub returns-in_err-add-3-clause-counted : goal.returns-in_err-add-3-clause-counted
returns-in_err-add-3-clause-counted c =
    counts_both 1 1 c.args.edges.now c.args.count.now c.loop-turn.count c.add-2.new.self c.loop-turn.invariant.counted
    (c.add-2.ensures.counted c.args.edges.now c.loop-turn.invariant.round.pile.reached.legal).counts

pub returns-clause-counted : goal.returns-clause-counted
returns-clause-counted c =
    counts_both 1 1 c.args.edges.now c.args.count.now c.loop-turn.count c.add-2.new.self c.loop-turn.invariant.counted
    (c.add-2.ensures.counted c.args.edges.now c.loop-turn.invariant.round.pile.reached.legal).counts
