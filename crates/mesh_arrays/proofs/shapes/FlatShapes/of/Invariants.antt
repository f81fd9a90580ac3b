use Rattle.std.proofs.Common.{◌≡◌, take}
use Rattle.mesh_num.specs.Paths.{shapes_of}
use Rattle.mesh_arrays.specs.EndToEnd.{end_to_end, ends_from, HoldsLists}
use Rattle.mesh_arrays.proofs.shapes.FlatShapes.of.Given as goal

-- the contours of the shapes so far, and where these end
abbrev pub invariant-loop-shape : goal.invariant-loop-shape
invariant-loop-shape g l = record {
  contours : HoldsLists g.P.Flat.item_of l.contours (end_to_end (shapes_of (take l.shape-index l.shapes.items)));
  ended : ends_from 0 (shapes_of (take l.shape-index l.shapes.items)) ≡ l.shape_ends.items;
}
