use Rattle.std.proofs.Common.{◌≡◌, length}
use Rattle.mesh_points.specs.Chains.{AreChained}
use Rattle.mesh_points.specs.Private.Filed.{before_in, list_in, points_in}
use Rattle.mesh_points.proofs.points.file_all.Given as goal

abbrev pub invariant-loop-k : goal.invariant-loop-k
invariant-loop-k l = record {
  same : points_in l.entries ≡ points_in l.initial.entries;
  chained : AreChained l.last l.k (before_in l.entries) (list_in l.entries (length l.last));
}
