use Rattle.std.proofs.Common.{◌≡◌, take, map}
use Rattle.mesh_num.specs.Paths.{paths_of}
use Rattle.mesh_variable_stroke.specs.Drawn.{vertex_points}
use Rattle.mesh_service.proofs.distances.all_centers.Given as goal

-- the paths so far
abbrev pub invariant-loop-path : goal.invariant-loop-path
invariant-loop-path g l = paths_of l.all.items ≡ map vertex_points (paths_of (take l.path-index l.paths))
