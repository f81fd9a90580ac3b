use Rattle.std.proofs.Common.{◌≡◌, ◌++◌, drop}
use Rattle.mesh_num.specs.Segments.{segments_of}
use Rattle.mesh_plane.specs.Winding.{route}
use Rattle.mesh_offset.specs.Adding.{in_sense}
use Rattle.mesh_offset.proofs.segments.add_closed.Given as goal

-- what is added and what is left make up the contour
abbrev pub invariant-loop-point : goal.invariant-loop-point
invariant-loop-point g l =
    l.segments.items ++ segments_of (in_sense l.fill (route l.previous (drop l.point-index l.rest) l.first))
    ≡ l.initial.segments.items ++ segments_of (in_sense l.fill (route l.first l.rest l.first))
