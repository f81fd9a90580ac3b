use Rattle.mesh_shapes.specs.Private.Progress.{IsBestVisit}
use Rattle.mesh_shapes.proofs.ring.start_place.Given as goal

abbrev pub invariant-loop-i : goal.invariant-loop-i
invariant-loop-i l = IsBestVisit l.all l.contour l.i l.best
