use Rattle.std.proofs.Common.{take}
use Rattle.std.specs.List.{All}
use Rattle.mesh_plane.specs.Bounds.{IsSafe}
use Rattle.mesh_num.specs.Paths.{paths_of}
use Rattle.mesh_operands.proofs.refusal.first_point.Given as goal

-- each point of each contour so far is safe
abbrev pub invariant-loop-index : goal.invariant-loop-index
invariant-loop-index g l = All (All (IsSafe g.I.IntNumber.unit)) (take l.index (paths_of l.paths))
