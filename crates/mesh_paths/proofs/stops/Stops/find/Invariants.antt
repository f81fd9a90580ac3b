use Rattle.std.proofs.Common.{ℕ, ◌<◌}
use Rattle.mesh_paths.specs.Stops.{IsBetweenIds}
use Rattle.mesh_paths.proofs.stops.Stops.find.Given as goal

abbrev pub invariant-loop-place : goal.invariant-loop-place
invariant-loop-place l = (k : ℕ) → k < l.place → IsBetweenIds l.self l.path l.u l.v k → ⊥
