use Rattle.std.proofs.Common.{take}
use Rattle.mesh_num.specs.FlatContours.{HoldsContours}
use Rattle.mesh_num.specs.Paths.{shapes_of, contours_of}
use Rattle.mesh_num.proofs.shape.buffer.FlatContoursBuffer.from_shapes.Given as goal

-- the contours of the shapes so far
abbrev pub invariant-loop-shape : goal.invariant-loop-shape
invariant-loop-shape g l = HoldsContours l.buffer (contours_of (shapes_of (take l.shape-index l.shapes.items)))
