use Rattle.std.proofs.Common.{◌≡◌, take, map}
use Rattle.mesh_plane.specs.Plane.{Edge}
use Rattle.mesh_below.proofs.resolve.starts.Given as goal

abbrev pub invariant-loop-e : goal.invariant-loop-e
invariant-loop-e l = l.points.items ≡ map (λ (e : Edge). e.0) (take l.e-index l.edges)
