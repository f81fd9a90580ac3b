use Rattle.std.proofs.Common.{◌≡◌, take}
use Rattle.mesh_below.proofs.answer.lattice_contour.Given as goal

abbrev pub invariant-loop-p : goal.invariant-loop-p
invariant-loop-p g l = l.points.items ≡ take l.p-index l.contour
