use Rattle.std.proofs.Common.{ℕ, ◌<◌, ◌^◌}
use Rattle.mesh_plane.specs.Bounds.{IsSafe}
use Rattle.mesh_points.specs.Points.{point_at}
use Rattle.mesh_clear.proofs.fit.are_points_small.Given as goal

abbrev pub invariant-loop-k : goal.invariant-loop-k
invariant-loop-k l = (i : ℕ) → i < l.k → IsSafe (2 ^ 30) (point_at l.points i)
