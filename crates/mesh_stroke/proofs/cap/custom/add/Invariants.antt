use Rattle.std.proofs.Common.{take, vec_capacity}
use Rattle.mesh_join.proofs.Drawing.{IsDrawn, each}
use Rattle.mesh_stroke.specs.CustomCaps.{custom_point}
use Rattle.mesh_stroke.proofs.cap.custom.add.Given as goal

abbrev pub invariant-loop-point : goal.invariant-loop-point
invariant-loop-point g l =
    IsDrawn (each (custom_point g.I.IntNumber.unit l.end)) l.end.first l.end.last
    l.fn.segments.items (vec_capacity l.fn.segments)
    (take l.point-index l.points) l.last l.segments.items (vec_capacity l.segments)
