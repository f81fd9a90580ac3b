-- Edges between numbered points.
use Rattle.std.specs.Prelude.{ℕ, ◌≡◌, ◌<◌, ◌≤◌, List, length, slice_index_or, pos, ◌*ℤ◌, unsigned_abs, IsTrue}
use Rattle.mesh_plane.specs.Order.{point_lt}
use Rattle.mesh_plane.specs.Plane.{Point, Edge}
use Rattle.mesh_lattice.specs.Counted.{Counted, along}
use Rattle.mesh_lattice.specs.Split.{same_ends}
use Rattle.mesh_points.specs.declared.edges.NumberedEdge.{NumberedEdge}
use Rattle.mesh_points.specs.Points.{IsNumberOf}

-- the ends of an edge, the lesser one first, and its count
abbrev pub counted : NumberedEdge → Counted
counted e = ((e.start, e.end), e.count)

-- an edge has its lesser end first, and the numbers of its ends
pub record IsNumbered (ps : List Point) (e : NumberedEdge) : Type 0 where
  pub forward : IsTrue (point_lt e.start e.end)
  pub from : IsNumberOf ps e.start e.from
  pub to : IsNumberOf ps e.end e.to

-- no edge, for what lies past the end of a list
abbrev pub no_edge : NumberedEdge
no_edge = record { start = (pos 0, pos 0); end = (pos 0, pos 0); from = 0; to = 0; count = pos 0 }

-- the edge of a place
abbrev pub edge_at : List NumberedEdge → ℕ → NumberedEdge
edge_at es k = slice_index_or es k no_edge

-- each edge has its lesser end first, and the numbers of its ends
abbrev pub AreNumbered : List Point → List NumberedEdge → Type 0
AreNumbered ps es = (k : ℕ) → k < length es → IsNumbered ps (edge_at es k)

-- a counted segment stands for an edge: the same ends, counted 1 along it or -1 back
pub record IsCountedAs (e : Edge) (k : Counted) : Type 0 where
  pub ends : (q : Edge) → same_ends q k.0 ≡ same_ends q e
  pub net : (q : Edge) → k.1 *ℤ along q k.0 ≡ along q e
  pub size : unsigned_abs k.1 ≤ 1

-- the place of an edge between two numbered points
pub record IsPlaceOf (es : List NumberedEdge) (u v k : ℕ) : Type 0 where
  pub within : k < length es
  pub from : (edge_at es k).from ≡ u
  pub to : (edge_at es k).to ≡ v
