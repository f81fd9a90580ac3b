use Rattle.std.proofs.Common.{take, []}
use Rattle.mesh_num.specs.Paths.{contours_of, shapes_of}
use Rattle.mesh_below.specs.Private.Rings.{PushesContours}
use Rattle.mesh_below.proofs.answer.lattice_contours.Given as goal

abbrev pub invariant-loop-shape : goal.invariant-loop-shape
invariant-loop-shape g l = PushesContours [] l.contours.items (contours_of (shapes_of (take l.shape-index l.shapes)))
