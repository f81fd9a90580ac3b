use Rattle.std.proofs.Common.{◌≡◌, ◌++◌, take}
use Rattle.mesh_num.specs.Paths.{shapes_of}
use Rattle.mesh_num.specs.Segments.{segments_of}
use Rattle.mesh_offset.specs.Adding.{in_sense}
use Rattle.mesh_offset.specs.Adding.{answer_edges}
use Rattle.mesh_offset.proofs.segments.add_shapes.Given as goal

-- the edges of the shapes so far
abbrev pub invariant-loop-shape : goal.invariant-loop-shape
invariant-loop-shape g l =
    l.segments.items ≡ l.initial.segments.items ++ segments_of (in_sense l.fill (answer_edges (shapes_of (take l.shape-index l.shapes.items))))
