use Rattle.std.proofs.Common.{◌≡◌}
use Rattle.mesh_paths.specs.Paths.{ArePaths}
use Rattle.mesh_attempt.proofs.attempt.cut_meetings.Given as goal

abbrev pub invariant-loop-m : goal.invariant-loop-m
invariant-loop-m l = record {
  paths : ArePaths l.paths;
  edges : l.paths.edges ≡ l.initial.paths.edges;
}
