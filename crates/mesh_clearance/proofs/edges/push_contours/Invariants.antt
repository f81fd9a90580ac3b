use Rattle.std.proofs.Common.{◌≡◌, ◌++◌, take}
use Rattle.std.specs.List.{flat_map}
use Rattle.mesh_num.specs.Paths.{paths_of}
use Rattle.mesh_plane.specs.Winding.{boundary}
use Rattle.mesh_clearance.proofs.edges.push_contours.Given as goal

abbrev pub invariant-loop-contour : goal.invariant-loop-contour
invariant-loop-contour g l = l.edges.items ≡ l.initial.edges.items ++ flat_map boundary (paths_of (take l.contour-index l.contours))
