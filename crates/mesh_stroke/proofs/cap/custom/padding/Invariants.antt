use Rattle.std.proofs.Common.{◌≡◌, ◌*◌, ◌≤◌, take}
use Rattle.mesh_stroke.specs.CustomCaps.{greatest_length}
use Rattle.mesh_stroke.proofs.cap.custom.padding.Given as goal

abbrev pub invariant-loop-point : goal.invariant-loop-point
invariant-loop-point g l = record {
  is : l.greatest ≡ greatest_length (take l.point-index l.points);
  most : l.greatest ≤ 4 * g.I.IntNumber.unit;
}
