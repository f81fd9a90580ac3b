-- The edges of a path, open or closed.
use Rattle.std.specs.Prelude.{Bool, true, false, List}
use Rattle.mesh_plane.specs.Plane.{Point, Edge}
use Rattle.mesh_plane.specs.Winding.{boundary}
use Rattle.mesh_num.specs.Segments.{proper_edges}
use Rattle.mesh_offset.specs.Walks.{pairs}

-- the neighbouring pairs of a list that is open or closed: last to first too where it is closed
abbrev pub neighbours : {A : Type 0} → Bool → List A → List (A × A)
neighbours true xs = boundary xs
neighbours false xs = pairs xs

-- the edges of a path: its neighbouring points, but for those that are one point
abbrev pub path_edges : Bool → List Point → List Edge
path_edges closed points = proper_edges (neighbours closed points)
