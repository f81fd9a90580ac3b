use Rattle.std.proofs.Common.{◌≤◌, drop, vec_capacity}
use Rattle.std.specs.Prelude.{pos, ◌≤ℤ◌}
use Rattle.mesh_variable_stroke.specs.Drawn.{greatest_radius}
use Rattle.mesh_variable_stroke.proofs.Thin.{IsThin}
use Rattle.mesh_variable_stroke.proofs.Walking.{IsWalked}
use Rattle.mesh_variable_stroke.proofs.builder.draw.Given as goal

abbrev pub invariant-loop-vertex : goal.invariant-loop-vertex
invariant-loop-vertex g l = record {
  walked : IsWalked g.I.IntNumber.unit l.fn.sweeper l.fn.path l.fn.segments.items l.segments.items l.sweeper l.walk
      (drop l.vertex-index l.rest);
  thin : greatest_radius l.fn.path ≤ℤ pos 1 → IsThin l.walk (drop l.vertex-index l.rest);
  capacity : vec_capacity l.fn.segments ≤ vec_capacity l.segments;
}
