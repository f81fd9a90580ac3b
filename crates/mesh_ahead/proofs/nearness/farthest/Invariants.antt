use Rattle.std.proofs.Common.{◌^◌, ◌*◌, ◌≤◌}
use Rattle.mesh_pairs.specs.Laws.{spread}
use Rattle.mesh_check.specs.Bent.{line_of}
use Rattle.mesh_ahead.specs.Farthest.{IsFarthestOf}
use Rattle.mesh_ahead.proofs.nearness.farthest.Given as goal

abbrev pub invariant-loop-place : goal.invariant-loop-place
invariant-loop-place l = record {
  farthest : IsFarthestOf l.paths l.fn.path l.most l.place;
  bound : l.most ≤ 2 ^ 32 * spread (line_of l.paths l.fn.path);
}
