use Rattle.mesh_shapes.specs.Private.Progress.{IsLeastBefore}
use Rattle.mesh_shapes.proofs.ring.least_place.Given as goal

abbrev pub invariant-loop-i : goal.invariant-loop-i
invariant-loop-i l = IsLeastBefore l.contour l.i l.least
