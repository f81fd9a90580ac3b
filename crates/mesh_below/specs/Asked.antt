-- What the overlay asks of segments.
use Rattle.std.specs.Prelude.{ℕ, List}
use Rattle.std.specs.List.{All}
use Rattle.mesh_num.specs.Segments.{SignedEdge, IsSubject, edges_of}
use Rattle.mesh_plane.specs.Winding.{IsBalanced}
use Rattle.mesh_lattice.specs.Reach.{AreEdgesSafe}

-- the segments are as `Segment::subject` gives them, their edges are balanced and in the safe range
pub record AreResolvable (unit : ℕ) (ss : List SignedEdge) : Type 0 where
  pub subject : All IsSubject ss
  pub balanced : IsBalanced (edges_of ss)
  pub safe : AreEdgesSafe unit (edges_of ss)
