use Rattle.std.proofs.Common.{◌≡◌, take}
use Rattle.mesh_variable_stroke.specs.Drawn.{vertex_points}
use Rattle.mesh_service.proofs.distances.centers.Given as goal

-- the points so far
abbrev pub invariant-loop-vertex : goal.invariant-loop-vertex
invariant-loop-vertex g l = l.points.items ≡ vertex_points (take l.vertex-index l.path)
