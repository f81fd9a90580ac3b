use Rattle.std.proofs.Common.{◌≡◌}
use Rattle.mesh_paths.proofs.paths.Paths.cut_beside.Given as goal

abbrev pub invariant-loop-place : goal.invariant-loop-place
invariant-loop-place l = l.self ≡ l.fn.self
