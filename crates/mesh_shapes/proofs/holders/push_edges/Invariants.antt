use Rattle.std.proofs.Common.{◌≡◌, ◌++◌, drop}
use Rattle.mesh_plane.specs.Winding.{boundary, route}
use Rattle.mesh_shapes.specs.Private.Holders.{with_place}
use Rattle.mesh_shapes.specs.Private.Progress.{point_at}
use Rattle.mesh_shapes.proofs.holders.push_edges.Given as goal

abbrev pub invariant-loop-i : goal.invariant-loop-i
invariant-loop-i l = l.edges.items ++ with_place l.h (route l.before (drop l.i l.points) (point_at l.points 0)) ≡ l.fn.edges.items ++ with_place l.h (boundary l.points)
