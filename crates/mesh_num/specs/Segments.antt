-- Signed segments: the smaller end, the larger end and a count of 1 or -1 stand for one directed edge.
use Rattle.std.specs.Prelude.{◌≡◌, ◌⊎◌, cond, not, List, [], ◌∷◌, ◌++◌, map, ℤ, pos, negsuc, int_lt, IsTrue}
use Rattle.std.specs.List.{filter}
use Rattle.mesh_plane.specs.Plane.{Point, Edge}
use Rattle.mesh_plane.specs.Winding.{same_point}
use Rattle.mesh_plane.specs.Order.{point_lt}

-- the ends of a segment, the smaller first, and its count
abbrev pub SignedEdge : Type 0
SignedEdge = Edge × ℤ

-- the edge that a segment stands for: from the smaller end where its count is above 0, else back
abbrev pub edge_of : SignedEdge → Edge
edge_of s = cond (int_lt (pos 0) s.1) s.0 (s.0.1, s.0.0)

-- the edges that segments stand for, in their order
abbrev pub edges_of : List SignedEdge → List Edge
edges_of ss = map edge_of ss

-- the segment that stands for the edge from `p` to `r`
abbrev pub subject_of : Point → Point → SignedEdge
subject_of p r = cond (point_lt p r) ((p, r), pos 1) ((r, p), negsuc 0)

-- the edge from `p` to `r`, or none where they are one point
abbrev pub edge_between : Point → Point → List Edge
edge_between p r = cond (same_point p r) [] ((p, r) ∷ [])

-- the segment of that edge, or none
abbrev pub segment_between : Point → Point → List SignedEdge
segment_between p r = cond (same_point p r) [] (subject_of p r ∷ [])

-- the edges whose ends differ
abbrev pub proper_edges : List Edge → List Edge
proper_edges es = filter (λ (e : Edge). not (same_point e.0 e.1)) es

-- the segments of the edges whose ends differ
abbrev pub segments_of : List Edge → List SignedEdge
segments_of [] = []
segments_of (e ∷ es) = segment_between e.0 e.1 ++ segments_of es

-- a segment as `Segment::subject` gives it
pub record IsSubject (s : SignedEdge) : Type 0 where
  pub ordered : IsTrue (point_lt s.0.0 s.0.1)
  pub unit_count : (s.1 ≡ pos 1) ⊎ (s.1 ≡ negsuc 0)
