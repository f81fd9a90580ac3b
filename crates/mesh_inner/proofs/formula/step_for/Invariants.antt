-- The lower step keeps the distance, the higher one does not.
use Rattle.std.proofs.Common.{◌-◌, ◌^◌, ◌<◌, ◌≤◌}
use Rattle.mesh_inner.specs.Formula.{DoesKeep}
use Rattle.mesh_inner.proofs.formula.step_for.Given as goal

abbrev pub invariant-loop-low : goal.invariant-loop-low
invariant-loop-low l = record {
  least : 2 ^ 22 ≤ l.low;
  apart : l.low < l.high;
  most : l.high ≤ 2 ^ 29;
  keeps : DoesKeep l.distance l.low l.radius;
  loses : DoesKeep l.distance l.high l.radius → ⊥;
}

abbrev pub decreases-loop-low : goal.decreases-loop-low
decreases-loop-low l = l.high - l.low
