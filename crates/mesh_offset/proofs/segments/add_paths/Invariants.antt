use Rattle.std.proofs.Common.{◌≡◌, ◌++◌, take}
use Rattle.std.specs.List.{flat_map}
use Rattle.mesh_num.specs.Segments.{segments_of}
use Rattle.mesh_plane.specs.Winding.{boundary}
use Rattle.mesh_offset.specs.Adding.{in_sense}
use Rattle.mesh_offset.proofs.segments.add_paths.Given as goal

-- the edges of the contours so far
abbrev pub invariant-loop-index : goal.invariant-loop-index
invariant-loop-index g l =
    l.segments.items ≡ l.initial.segments.items ++ segments_of (in_sense l.fill (flat_map boundary (take l.index (g.S.IntShapeResource.paths l.source))))
