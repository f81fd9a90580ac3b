use Rattle.std.specs.List.{All}
use Rattle.mesh_clearance.specs.Boxes.{IsRun}
use Rattle.mesh_clearance.proofs.runs.push_runs.Given as goal

abbrev pub invariant-loop-size : goal.invariant-loop-size
invariant-loop-size l = All (IsRun l.edges) l.list.items

abbrev pub decreases-loop-size : goal.decreases-loop-size
decreases-loop-size l = l.size
