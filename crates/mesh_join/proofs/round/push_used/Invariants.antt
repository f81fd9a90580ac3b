use Rattle.std.proofs.Common.{take, vec_capacity}
use Rattle.mesh_join.specs.Private.RoundJoins.{used_past}
use Rattle.mesh_join.proofs.Drawing.{IsDrawn}
use Rattle.mesh_join.proofs.round.push_used.Given as goal

abbrev pub invariant-loop-direction : goal.invariant-loop-direction
invariant-loop-direction g l =
    IsDrawn (used_past g.I.IntNumber.unit l.joint) l.joint.first l.joint.last
    l.fn.segments.items (vec_capacity l.fn.segments)
    (take l.direction-index l.directions) l.last l.segments.items (vec_capacity l.segments)
