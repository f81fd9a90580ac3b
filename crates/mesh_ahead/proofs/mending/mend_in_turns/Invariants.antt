use Rattle.std.proofs.Common.{List}
use Rattle.mesh_plane.specs.Plane.{Edge}
use Rattle.mesh_pairs.specs.Pairs.{AreFound}
use Rattle.mesh_paths.specs.Paths.{ArePaths}
use Rattle.mesh_attempt.specs.Attempts.{AreCut}
use Rattle.mesh_ahead.proofs.mending.mend_in_turns.Given as goal

abbrev pub invariant-loop : goal.invariant-loop
invariant-loop l = record {
  paths : ArePaths l.cut.paths;
  found : AreFound l.cut.paths.edges.items l.cut.pairs;
  cut : (given : List Edge) → AreCut given l.initial.cut → AreCut given l.cut;
}
