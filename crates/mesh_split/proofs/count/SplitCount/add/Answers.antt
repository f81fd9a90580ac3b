use Rattle.mesh_split.proofs.Counts.{counts_one}
use Rattle.mesh_split.proofs.count.SplitCount.add.Goals as goal

pub returns-then-is_past_limit-clause-counted : goal.returns-then-is_past_limit-clause-counted
returns-then-is_past_limit-clause-counted c = λ given legal. counts_one given c.args.self.now c.with.result c.args.log.now legal c.with.ensures

pub returns-clause-counted : goal.returns-clause-counted
returns-clause-counted c = λ given legal. counts_one given c.args.self.now c.with.result c.args.log.now legal c.with.ensures
