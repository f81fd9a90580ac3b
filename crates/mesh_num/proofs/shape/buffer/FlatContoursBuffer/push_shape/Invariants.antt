use Rattle.std.proofs.Common.{ℤ, List, ◌++◌, take}
use Rattle.mesh_num.specs.FlatContours.{HoldsContours}
use Rattle.mesh_num.specs.Paths.{paths_of}
use Rattle.mesh_num.proofs.shape.buffer.FlatContoursBuffer.push_shape.Given as goal

-- what the buffer held, and then the contours so far
abbrev pub invariant-loop-contour : goal.invariant-loop-contour
invariant-loop-contour g l = (cs : List (List (ℤ × ℤ))) → HoldsContours l.initial.self cs → HoldsContours l.self (cs ++ paths_of (take l.contour-index l.shape.items))
