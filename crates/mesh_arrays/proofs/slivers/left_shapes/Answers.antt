-- The shapes are read, and what is left of them is held in lists.
use Rattle.mesh_num.specs.Paths.{shapes_of}
use Rattle.mesh_arrays.proofs.slivers.left_shapes.Goals as goal

pub returns : goal.returns
returns g c = record {
  shapes = shapes_of c.in_ok-shapes.shapes.items;
  asked = c.in_ok-shapes.ensures;
  held = rw c.without_slivers-left.ensures.left at c.in_ok-of.ensures;
  winding = rw c.without_slivers-left.ensures.left at c.without_slivers-left.ensures.winding;
}
