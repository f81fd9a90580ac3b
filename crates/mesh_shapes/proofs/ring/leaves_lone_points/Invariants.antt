use Rattle.std.proofs.Common.{drop}
use Rattle.std.specs.List.{All}
use Rattle.mesh_shapes.specs.Contours.{StartsOnce, omitted, left_out}
use Rattle.mesh_shapes.specs.Private.Progress.{point_at}
use Rattle.mesh_shapes.proofs.ring.leaves_lone_points.Given as goal

abbrev pub invariant-loop-i : goal.invariant-loop-i
invariant-loop-i l =
    All (StartsOnce l.ordered) (omitted l.all l.before (drop l.i l.contour) (point_at l.contour 0)) → All (StartsOnce l.ordered) (left_out l.all l.contour)
