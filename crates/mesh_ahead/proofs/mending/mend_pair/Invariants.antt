use Rattle.std.proofs.Common.{◌≡◌, ◌<◌}
use Rattle.mesh_paths.specs.Paths.{ArePaths}
use Rattle.mesh_paths.specs.Stops.{count_of}
use Rattle.mesh_ahead.proofs.mending.mend_pair.Given as goal

abbrev pub invariant-loop-p : goal.invariant-loop-p
invariant-loop-p l = record {
  paths : ArePaths l.paths;
  edges : l.paths.edges ≡ l.initial.paths.edges;
  first : l.look.first < count_of l.paths.stops;
  second : l.look.second < count_of l.paths.stops;
}

abbrev pub decreases-loop-p : goal.decreases-loop-p
decreases-loop-p l = l.left
