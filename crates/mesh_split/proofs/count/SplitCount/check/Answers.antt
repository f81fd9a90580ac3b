use Rattle.mesh_split.proofs.Counts.{counts_one}
use Rattle.mesh_split.proofs.count.SplitCount.check.Goals as goal

pub returns-then-is_past_limit-clause-counted : goal.returns-then-is_past_limit-clause-counted
returns-then-is_past_limit-clause-counted c = λ given legal. (counts_one given c.args.self.now c.with-sum.result c.args.log.now legal c.with-sum.ensures).counts
