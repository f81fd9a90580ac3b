use Rattle.std.proofs.Common.{◌^◌}
use Rattle.mesh_plane.specs.Plane.{cross}
use Rattle.mesh_shapes.proofs.AreaSums.{ClosedSum}
use Rattle.mesh_shapes.proofs.area.double_area.Given as goal

abbrev pub invariant-loop-i : goal.invariant-loop-i
invariant-loop-i l = ClosedSum cross (2 ^ 63) l.points l.i l.before l.sum
