use Rattle.std.proofs.Common.{◌≡◌}
use Rattle.mesh_paths.specs.Paths.{ArePaths}
use Rattle.mesh_anew.proofs.anew.cut_in_order.Given as goal

abbrev pub invariant-loop-k : goal.invariant-loop-k
invariant-loop-k l = record {
  paths : ArePaths l.paths;
  edges : l.paths.edges ≡ l.initial.paths.edges;
}
