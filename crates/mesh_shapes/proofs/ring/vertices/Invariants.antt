use Rattle.std.proofs.Common.{◌≡◌, ◌++◌, drop}
use Rattle.mesh_shapes.specs.Contours.{kept, vertices}
use Rattle.mesh_shapes.specs.Private.Progress.{point_at}
use Rattle.mesh_shapes.proofs.ring.vertices.Given as goal

abbrev pub invariant-loop-i : goal.invariant-loop-i
invariant-loop-i l = l.points.items ++ kept l.all l.before (drop l.i l.contour) (point_at l.contour 0) ≡ vertices l.all l.contour
