use Rattle.std.proofs.Common.{ℕ}
use borrow.Author.Count.{below_more}
use Rattle.mesh_clear.specs.Private.Looking.{IsClearAtEnds}
use Rattle.mesh_clear.proofs.ends.are_clear_at_ends.Goals as goal

pub loop-path-preserved : goal.loop-path-preserved
loop-path-preserved c =
    below_more (λ (j : ℕ). IsClearAtEnds c.args.paths.now j) c.loop-path.path c.loop-path.invariant (c.is_clear_at_ends.ensures c.if-not-is_clear_at_ends.false)
