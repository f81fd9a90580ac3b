use Rattle.std.proofs.Common.{take}
use Rattle.mesh_outline.specs.Private.Gathered.{HoldMore}
use Rattle.mesh_outline.proofs.bounds_apart.with_contour.Given as goal

-- the points so far
abbrev pub invariant-loop-point : goal.invariant-loop-point
invariant-loop-point g l = HoldMore l.fn.bounds l.wider (take l.point-index l.contour)
