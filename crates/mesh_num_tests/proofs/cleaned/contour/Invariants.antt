use Rattle.std.proofs.Common.{◌^◌}
use Rattle.std.specs.List.{All}
use Rattle.mesh_plane.specs.Bounds.{IsSafe}
use Rattle.mesh_num_tests.proofs.cleaned.contour.Given as goal

abbrev pub invariant-loop-at : goal.invariant-loop-at
invariant-loop-at l = All (IsSafe (2 ^ 30)) l.points.items

abbrev pub invariant-loop-at-2 : goal.invariant-loop-at-2
invariant-loop-at-2 l = All (IsSafe (2 ^ 30)) l.points.items
