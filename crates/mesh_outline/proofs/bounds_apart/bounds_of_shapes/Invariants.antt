use Rattle.std.proofs.Common.{take}
use Rattle.mesh_num.specs.Paths.{shapes_of}
use Rattle.mesh_outline.proofs.PointBounds.{HoldShapes}
use Rattle.mesh_outline.proofs.bounds_apart.bounds_of_shapes.Given as goal

-- the points of the shapes so far
abbrev pub invariant-loop-shape : goal.invariant-loop-shape
invariant-loop-shape g l = HoldShapes l.bounds (shapes_of (take l.shape-index l.shapes))
