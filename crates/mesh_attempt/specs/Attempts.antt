-- What an attempt answers, where it is not given up.
use Rattle.std.specs.Prelude.{List, map}
use Rattle.mesh_plane.specs.Plane.{Edge}
use Rattle.mesh_lattice.specs.Counted.{IsCountOf}
use Rattle.mesh_meeting.specs.Small.{HasSmallEnds}
use Rattle.mesh_points.specs.declared.edges.NumberedEdge.{NumberedEdge}
use Rattle.mesh_points.specs.Edges.{counted}
use Rattle.mesh_pairs.specs.Pairs.{AreFound, AreSmall}
use Rattle.mesh_paths.specs.Paths.{ArePaths}
use Rattle.mesh_attempt.specs.declared.attempt.CutEdges.{CutEdges}

-- both ends of an edge have coordinates below 2^30 in size
abbrev pub IsSmall : NumberedEdge → Type 0
IsSmall e = HasSmallEnds (e.start, e.end)

-- given edges were merged into small ones, and have become paths by legal splits; all pairs of the merged edges are known
pub record AreCut (given : List Edge) (c : CutEdges) : Type 0 where
  pub paths : ArePaths c.paths
  pub count : IsCountOf given (map counted c.paths.edges.items)
  pub small : AreSmall c.paths.edges.items
  pub found : AreFound c.paths.edges.items c.pairs
