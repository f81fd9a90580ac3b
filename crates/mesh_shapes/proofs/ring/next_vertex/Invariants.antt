use Rattle.std.proofs.Common.{◌≡◌, drop}
use Rattle.mesh_shapes.specs.Private.Progress.{point_at, next_at, next_kept}
use Rattle.mesh_shapes.proofs.ring.next_vertex.Given as goal

abbrev pub invariant-loop-i : goal.invariant-loop-i
invariant-loop-i l = next_kept l.all l.before (drop l.i l.contour) (point_at l.contour 0) ≡ next_at l.all l.contour l.at
