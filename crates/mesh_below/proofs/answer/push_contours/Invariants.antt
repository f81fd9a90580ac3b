use Rattle.std.proofs.Common.{take}
use Rattle.mesh_num.specs.Paths.{paths_of}
use Rattle.mesh_below.specs.Private.Rings.{PushesContours}
use Rattle.mesh_below.proofs.answer.push_contours.Given as goal

abbrev pub invariant-loop-contour : goal.invariant-loop-contour
invariant-loop-contour g l = PushesContours l.initial.contours.items l.contours.items (paths_of (take l.contour-index l.shape))
