use Rattle.std.proofs.Common.{◌≡◌, take}
use Rattle.mesh_num.specs.Paths.{shapes_of}
use Rattle.mesh_below.proofs.answer.int_shapes.Given as goal

abbrev pub invariant-loop-shape : goal.invariant-loop-shape
invariant-loop-shape g l = shapes_of l.answer.items ≡ shapes_of (take l.shape-index l.shapes)
