use Rattle.std.proofs.Common.{take}
use Rattle.mesh_num.specs.Paths.{paths_of}
use Rattle.mesh_outline.specs.Private.Gathered.{HoldMore}
use Rattle.mesh_outline.proofs.PointBounds.{points_of}
use Rattle.mesh_outline.proofs.bounds_apart.with_shape.Given as goal

-- the points of the contours so far
abbrev pub invariant-loop-contour : goal.invariant-loop-contour
invariant-loop-contour g l = HoldMore l.fn.bounds l.wider (points_of (paths_of (take l.contour-index l.shape)))
