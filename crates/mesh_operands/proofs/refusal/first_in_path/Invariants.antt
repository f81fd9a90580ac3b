use Rattle.std.proofs.Common.{take}
use Rattle.std.specs.List.{All}
use Rattle.mesh_plane.specs.Bounds.{IsSafe}
use Rattle.mesh_operands.proofs.refusal.first_in_path.Given as goal

-- each point so far is safe
abbrev pub invariant-loop-index : goal.invariant-loop-index
invariant-loop-index g l = All (IsSafe g.I.IntNumber.unit) (take l.index l.path)
