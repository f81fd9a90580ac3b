use Rattle.std.specs.List.{All}
use Rattle.mesh_clearance.specs.Boxes.{IsRun}
use Rattle.mesh_clearance.proofs.runs.runs_of.Given as goal

abbrev pub invariant-loop-first : goal.invariant-loop-first
invariant-loop-first l = All (IsRun l.edges) l.list.items
