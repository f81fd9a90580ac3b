use Rattle.std.proofs.Common.{◌≡◌}
use Rattle.mesh_paths.specs.Paths.{ArePaths}
use Rattle.mesh_ahead.proofs.mending.mend.Given as goal

abbrev pub invariant-loop-next : goal.invariant-loop-next
invariant-loop-next l = record {
  paths : ArePaths l.paths;
  edges : l.paths.edges ≡ l.initial.paths.edges;
}
