use Rattle.std.proofs.Common.{◌≡◌, take}
use Rattle.std.specs.List.{flat_map}
use Rattle.mesh_num.specs.FlatContours.{flat_contours}
use Rattle.mesh_plane.specs.Winding.{boundary}
use Rattle.mesh_nets.proofs.edges.edges_of.Given as goal

abbrev pub invariant-loop-index : goal.invariant-loop-index
invariant-loop-index g l = l.edges.items ≡ flat_map boundary (take l.index (flat_contours l.contours))
