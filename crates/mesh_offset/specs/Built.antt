-- What stands after edges were added, after some of many paths were drawn, and after edges that close up were added.
-- Private contracts alone read this.
use Rattle.std.specs.Prelude.{ℕ, ◌≡◌, List, ◌++◌}
use Rattle.std.specs.List.{All, flat_map}
use Rattle.std.specs.List.Sorted.{IsPermutation}
use Rattle.mesh_plane.specs.Plane.{Edge}
use Rattle.mesh_plane.specs.Winding.{IsBalanced}
use Rattle.mesh_num.specs.Segments.{SignedEdge, segments_of, edges_of, IsSubject}
use Rattle.mesh_lattice.specs.Reach.{AreEdgesSafe}

-- segments that stand for the edges of all paths, in some order; `draw` gives those of each
pub record AreBuilt {P : Type 0} (draw : P → List Edge) (paths : List P) (ss : List SignedEdge) : Type 0 where
  pub same : IsPermutation (edges_of ss) (flat_map draw paths)
  pub form : All IsSubject ss

-- the vector `new` holds what `old` held, and then segments that stand for the edges, in some order, each as
-- `Segment::subject` gives it
abbrev pub Adds : List SignedEdge → List SignedEdge → List Edge → Type 0
Adds old new edges =
    (added : List SignedEdge) × (new ≡ old ++ added) × IsPermutation (edges_of added) edges × All IsSubject added

-- the vector `new` holds what `old` held, and then the segments of these edges, which are balanced and in the safe
-- range
pub record AddsClosed (unit : ℕ) (old new : List SignedEdge) (edges : List Edge) : Type 0 where
  pub balanced : IsBalanced edges
  pub safe : AreEdgesSafe unit edges
  pub added : new ≡ old ++ segments_of edges
