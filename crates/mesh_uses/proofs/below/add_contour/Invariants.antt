use Rattle.std.proofs.Common.{◌≡◌, ◌++◌, drop}
use Rattle.mesh_num.specs.Segments.{segments_of}
use Rattle.mesh_num.specs.Winding.{route}
use Rattle.mesh_uses.proofs.below.add_contour.Given as goal

-- what is added and what is left make up the contour
abbrev pub invariant-loop-end : goal.invariant-loop-end
invariant-loop-end l =
    l.segments.items ++ segments_of (route l.start (drop l.end-index l.others) l.first)
    ≡ l.initial.segments.items ++ segments_of (route l.first l.others l.first)
