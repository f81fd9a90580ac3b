use Rattle.std.proofs.Common.{◌≡◌}
use Rattle.mesh_paths.proofs.paths.Paths.cut_around.Given as goal

abbrev pub invariant-loop-place : goal.invariant-loop-place
invariant-loop-place l = l.self ≡ l.fn.self

abbrev pub invariant-loop-place-2 : goal.invariant-loop-place-2
invariant-loop-place-2 l = l.self ≡ l.fn.self
