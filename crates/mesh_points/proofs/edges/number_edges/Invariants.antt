use Rattle.std.proofs.Common.{take}
use Rattle.mesh_points.specs.Points.{IsNumberOf}
use Rattle.mesh_points.specs.Merged.{IsMerged}
use Rattle.mesh_points.proofs.edges.number_edges.Given as goal

abbrev pub invariant-loop-e : goal.invariant-loop-e
invariant-loop-e l = record {
  merged : IsMerged (take l.e-index l.given) l.merger;
  numbered : IsNumberOf l.merger.points l.latest l.number;
}
