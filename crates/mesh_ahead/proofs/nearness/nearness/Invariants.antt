use Rattle.std.proofs.Common.{◌^◌, ◌≤◌}
use Rattle.mesh_ahead.specs.Farthest.{IsNearnessOf}
use Rattle.mesh_ahead.proofs.nearness.nearness.Given as goal

abbrev pub invariant-loop-path : goal.invariant-loop-path
invariant-loop-path l = record {
  near : IsNearnessOf l.paths l.path l.most;
  small : l.most ≤ 2 ^ 38;
}
