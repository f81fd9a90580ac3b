use Rattle.std.proofs.Common.{ℕ, ◌<◌}
use Rattle.mesh_clear.specs.Private.Looking.{IsClearAtEnds}
use Rattle.mesh_clear.proofs.ends.are_clear_at_ends.Given as goal

abbrev pub invariant-loop-path : goal.invariant-loop-path
invariant-loop-path l = (j : ℕ) → j < l.path → IsClearAtEnds l.paths j
