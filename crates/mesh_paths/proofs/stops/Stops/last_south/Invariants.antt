use Rattle.std.proofs.Common.{◌+◌, ◌<◌, ◌≤◌}
use Rattle.mesh_paths.specs.Stops.{pieces_of}
use Rattle.mesh_paths.proofs.stops.Stops.last_south.Given as goal

abbrev pub invariant-loop-left : goal.invariant-loop-left
invariant-loop-left l = (l.first + l.left ≤ pieces_of l.self l.path + 1) × (0 < l.left)

abbrev pub decreases-loop-left : goal.decreases-loop-left
decreases-loop-left l = l.left
