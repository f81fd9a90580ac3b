use Rattle.std.proofs.Common.{◌≡◌, take}
use Rattle.std.specs.List.{flat_map}
use Rattle.mesh_num.specs.Paths.{contours_of, shapes_of}
use Rattle.mesh_plane.specs.Winding.{boundary}
use Rattle.mesh_clearance.proofs.edges.edges_of.Given as goal

abbrev pub invariant-loop-shape : goal.invariant-loop-shape
invariant-loop-shape g l = l.edges.items ≡ flat_map boundary (contours_of (shapes_of (take l.shape-index l.shapes)))
