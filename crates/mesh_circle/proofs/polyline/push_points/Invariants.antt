use Rattle.std.proofs.Common.{take, vec_capacity}
use Rattle.mesh_join.proofs.Drawing.{IsDrawn, each}
use Rattle.mesh_circle.specs.Sweeps.{point_round}
use Rattle.mesh_circle.proofs.polyline.push_points.Given as goal

abbrev pub invariant-loop-direction : goal.invariant-loop-direction
invariant-loop-direction g l =
    IsDrawn (each (point_round g.I.IntNumber.unit l.fn.center (g.I.IntNumber.value l.fn.radius))) l.fn.from l.fn.to
    l.fn.segments.items (vec_capacity l.fn.segments)
    (take l.direction-index l.directions) l.last l.segments.items (vec_capacity l.segments)
