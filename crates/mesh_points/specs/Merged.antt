-- Edges that are merged with others of the same ends.
use Rattle.std.specs.Prelude.{ℕ, ◌≡◌, ◌<◌, ◌≤◌, ◌^◌, List, length, map, slice_index_or, unsigned_abs}
use Rattle.mesh_plane.specs.Plane.{Point, Edge}
use Rattle.mesh_lattice.specs.Counted.{IsCountOf}
use Rattle.mesh_points.specs.declared.edges.NumberedEdge.{NumberedEdge}
use Rattle.mesh_points.specs.declared.edges.Merger.{Merger}
use Rattle.mesh_points.specs.Edges.{counted, edge_at, AreNumbered}
use Rattle.mesh_points.specs.Points.{AreDistinct}
use Rattle.mesh_points.specs.Chains.{AreChained}

-- the link of an edge
abbrev pub link_in : List ℕ → ℕ → ℕ
link_in before k = slice_index_or before k 0

-- the number of an edge's start
abbrev pub start_in : List NumberedEdge → ℕ → ℕ
start_in es k = (edge_at es k).from

-- edges between numbered points, in lists by their starts
pub record AreFiled (es : List NumberedEdge) (ps : List Point) (last before : List ℕ) : Type 0 where
  pub points : length last ≡ length ps
  pub links : length before ≡ length es
  pub chained : AreChained last (length es) (link_in before) (start_in es)
  pub numbered : AreNumbered ps es
  pub distinct : AreDistinct ps
  pub fit : length es < 2 ^ 31

abbrev pub AreMerged : Merger → Type 0
AreMerged m = AreFiled m.list.items m.points m.last.items m.before.items

-- no count is above so many
abbrev pub AreCountsWithin : List NumberedEdge → ℕ → Type 0
AreCountsWithin es n = (k : ℕ) → k < length es → unsigned_abs (edge_at es k).count ≤ n

-- edges are the given ones, merged
pub record AreOf (given : List Edge) (es : List NumberedEdge) : Type 0 where
  pub count : IsCountOf given (map counted es)
  pub sizes : AreCountsWithin es (length given)
  pub few : length es ≤ length given

-- the edges of a merger are the given ones, merged
abbrev pub IsMerged : List Edge → Merger → Type 0
IsMerged given m = AreMerged m × AreOf given m.list.items
