use Rattle.std.proofs.Common.{ℕ, ◌<◌, ◌≤◌, ◌^◌}
use Rattle.std.specs.Prelude.{unsigned_abs}
use Rattle.mesh_plane.specs.Plane.{turn}
use Rattle.mesh_paths.specs.Stops.{point_of}
use Rattle.mesh_check.proofs.leading.bend_of.Given as goal

abbrev pub invariant-loop-place : goal.invariant-loop-place
invariant-loop-place l = record {
  few : l.most < 2 ^ 63;
  sizes : (i : ℕ) → i < l.place → unsigned_abs (turn l.line.0 l.line.1 (point_of l.paths.stops l.path i)) ≤ l.most;
}
