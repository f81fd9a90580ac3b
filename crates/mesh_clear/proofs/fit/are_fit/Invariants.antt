use Rattle.std.proofs.Common.{ℕ, ◌<◌}
use Rattle.mesh_clear.specs.Private.Looking.{IsPathFit}
use Rattle.mesh_clear.proofs.fit.are_fit.Given as goal

abbrev pub invariant-loop-path : goal.invariant-loop-path
invariant-loop-path l = (k : ℕ) → k < l.path → IsPathFit l.paths k
