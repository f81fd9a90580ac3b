-- What stands while pieces are merged one by one.
use Rattle.std.specs.Prelude.{ℕ, ◌≡◌, ◌++◌, List, [], ◌∷◌, length, map, take, ◌*ℤ◌}
use Rattle.mesh_plane.specs.Plane.{Point, Edge}
use Rattle.mesh_lattice.specs.Counted.{along, Counted}
use Rattle.mesh_lattice.specs.Split.{same_ends}
use Rattle.mesh_points.specs.declared.edges.NumberedEdge.{NumberedEdge}
use Rattle.mesh_points.specs.Edges.{counted, edge_at, IsNumbered}
use Rattle.mesh_points.specs.Chains.{AreChained}
use Rattle.mesh_points.specs.Merged.{link_in, start_in, AreFiled}
use Rattle.mesh_paths.specs.declared.paths.Paths.{Paths}
use Rattle.mesh_paths.specs.declared.pieces.Pieces.{Pieces}
use Rattle.mesh_paths.specs.Pieces.{alike, segments_of, AreMergedOf}
use Rattle.mesh_paths.specs.Stops.{edges_along, point_of}

-- two segments with the same ends, which count the same
pub record CountAlike (g e : Counted) : Type 0 where
  pub ends : (q : Edge) → same_ends q e.0 ≡ same_ends q g.0
  pub net : (q : Edge) → e.1 *ℤ along q e.0 ≡ g.1 *ℤ along q g.0

-- each piece stands in the list of its start
pub record AreLinked (p : Pieces) : Type 0 where
  pub links : length p.before.items ≡ length p.list.items
  pub chained : AreChained p.last.items (length p.list.items) (link_in p.before.items) (start_in p.list.items)

-- pieces between numbered points, in lists by their starts
abbrev pub AreFiledPieces : List Point → Pieces → Type 0
AreFiledPieces ps p = AreFiled p.list.items ps p.last.items p.before.items

-- pieces are segments, merged
abbrev pub ArePiecesOf : List Counted → Pieces → Type 0
ArePiecesOf all p = AreMergedOf all (map counted p.list.items)

-- both
abbrev pub IsMergedTo : List Point → List Counted → Pieces → Type 0
IsMergedTo ps all p = AreFiledPieces ps p × ArePiecesOf all p

-- where pieces are segments, merged, they are so with a segment more that counts like the edge
abbrev pub IsPieceAdded : NumberedEdge → Pieces → Pieces → Type 0
IsPieceAdded e old new =
    (ps : List Point) (all : List Counted) (g : Counted) → IsNumbered ps e → CountAlike g (counted e)
    → IsMergedTo ps all old → IsMergedTo ps (all ++ g ∷ []) new

-- the segments of the paths before one, and its own before a place
abbrev pub segments_to : Paths → ℕ → ℕ → List Counted
segments_to p k place =
    segments_of p.splits (take k (map counted p.edges.items))
    ++ alike (edges_along (point_of p.stops k) place) (edge_at p.edges.items k).count
