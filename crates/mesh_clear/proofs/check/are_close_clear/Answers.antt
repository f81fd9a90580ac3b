use Rattle.std.proofs.Common.{ℕ, List, arith, subst, take_all}
use Rattle.std.specs.List.{All}
use Rattle.std.proofs.lemmas.List.Elements.{All-get_or, All-more}
use Rattle.mesh_pairs.specs.Pairs.{IsClose}
use Rattle.mesh_clear.specs.Private.Looking.{IsClearPair}
use Rattle.mesh_clear.proofs.check.are_close_clear.Goals as goal

pub is_pair_clear-requires-clause-pair : goal.is_pair_clear-requires-clause-pair
is_pair_clear-requires-clause-pair c = All-get_or (IsClose c.args.paths.now.edges.items) c.args.close.now c.loop-pair.pair-index (0, 0) (omega (arith, c.loop-pair-test.true)) c.requires.close

pub loop-pair-preserved : goal.loop-pair-preserved
loop-pair-preserved c =
    All-more (IsClearPair c.args.paths.now) c.args.close.now c.loop-pair.pair-index _ (omega (arith, c.loop-pair-test.true)) c.loop-pair.invariant
    (c.is_pair_clear.ensures c.if-not-is_pair_clear.false)

pub returns : goal.returns
returns c = λ _.
    subst (λ (cs : List (ℕ × ℕ)). All (IsClearPair c.args.paths.now) cs) (take_all c.loop-pair.pair-index c.args.close.now (omega (arith, c.loop-pair-test.false))) c.loop-pair.invariant
