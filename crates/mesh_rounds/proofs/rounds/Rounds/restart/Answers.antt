use Rattle.std.proofs.Common.{rules}
use Rattle.mesh_split.proofs.Counts.{counts_none}
use Rattle.mesh_rounds.proofs.rounds.Rounds.restart.Goals as goal

pub returns-then-turn-ne-ROUNDS-clause-counted : goal.returns-then-turn-ne-ROUNDS-clause-counted
returns-then-turn-ne-ROUNDS-clause-counted c = counts_none 1 c.args.edges.now c.args.count.now (search rules)

pub returns-in_err-add-clause-counted : goal.returns-in_err-add-clause-counted
returns-in_err-add-clause-counted c = (c.add.ensures.counted c.args.edges.now c.requires.round.pile.reached.legal).counts

pub returns-in_err-self-clause-counted : goal.returns-in_err-self-clause-counted
returns-in_err-self-clause-counted c = (c.add.ensures.counted c.args.edges.now c.requires.round.pile.reached.legal).counts

pub returns-clause-counted : goal.returns-clause-counted
returns-clause-counted c = (c.add.ensures.counted c.args.edges.now c.requires.round.pile.reached.legal).counts
