use Rattle.std.proofs.Common.{inl, refl, rules, subst}
use Rattle.mesh_split.specs.Counting.{CountsAtMost}
use Rattle.mesh_split.specs.declared.count.SplitCount.{SplitCount}
use Rattle.mesh_split.proofs.Piles.{pile_ordered, waits_ordered}
use Rattle.mesh_rounds.proofs.Rounding.{grows_on}
use Rattle.mesh_rounds.proofs.rounds.split_pairs.Goals as goal

pub loop-turn-init : goal.loop-turn-init
loop-turn-init c =
    let old = c.args.splitter.now in
    record {
      same = refl;
      pile = pile_ordered c.args.edges.now old.log old.todo c.reserve.new.self old.live c.in_ok-reserve.ensures c.requires.pile;
      none_lives = c.requires.none_lives;
      grows = λ _ x w. inl (waits_ordered x old.todo c.reserve.new.self c.in_ok-reserve.ensures w);
    }

pub returns-in_err-check-clause-counted : goal.returns-in_err-check-clause-counted
returns-in_err-check-clause-counted c =
    subst (λ (n : SplitCount). CountsAtMost 1 c.args.edges.now n c.check.new.self) c.loop-turn.invariant.same
    (c.in_err-check.ensures.counted c.args.edges.now (c.in_ok-split_pair.ensures.kept c.args.edges.now c.loop-turn.invariant.pile).reached.legal)

pub loop-turn-preserved : goal.loop-turn-preserved
loop-turn-preserved c = record {
  same = search rules;
  pile = search rules;
  none_lives = search rules;
  grows = grows_on c.args.lists _ _ _ _ _ c.loop-turn.invariant.grows c.in_ok-split_pair.ensures.grows c.in_ok-split_pair.ensures.listed;
}
