-- Edges that run once round a convex polygon, counterclockwise.
use Rattle.std.specs.Prelude.{ℕ, suc, ◌<◌, ◌≡◌, List, length, map, slice_index_or, pos, ◌<ℤ◌}
use Rattle.mesh_plane.specs.Plane.{Point, Edge, turn}
use Rattle.mesh_lattice.specs.Counted.{Counted}

-- no edge, for what lies past the end of a list
abbrev pub no_edge : Edge
no_edge = ((pos 0, pos 0), (pos 0, pos 0))

abbrev pub edge_at : List Edge → ℕ → Edge
edge_at es k = slice_index_or es k no_edge

-- where the edge of a place starts
abbrev pub start_at : List Edge → ℕ → Point
start_at es k = (edge_at es k).0

-- any three of so many points turn to the left, in their order
abbrev pub TurnLeft : (ℕ → Point) → ℕ → Type 0
TurnLeft p n = (i j k : ℕ) → i < j → j < k → k < n → pos 0 <ℤ turn (p i) (p j) (p k)

-- edges that run once round a convex polygon: each starts where the one before it ends, the first one where the last
-- one ends, and any three of these points turn to the left
pub record IsConvexLoop (es : List Edge) : Type 0 where
  pub many : 2 < length es
  pub chained : (k : ℕ) → suc k < length es → (edge_at es k).1 ≡ start_at es (suc k)
  pub closed : (k : ℕ) → suc k ≡ length es → (edge_at es k).1 ≡ start_at es 0
  pub left : TurnLeft (start_at es) (length es)

-- an edge that goes on to the left: of the way from a point to it, and, seen from the first point, of its own start and
-- of the second point
pub record IsTurningOn (first second before : Point) (e : Edge) : Type 0 where
  pub at_corner : pos 0 <ℤ turn before e.0 e.1
  pub seen : pos 0 <ℤ turn first e.0 e.1
  pub beside : pos 0 <ℤ turn first second e.1

-- each edge as a segment that counts once
abbrev pub once_each : List Edge → List Counted
once_each es = map (λ (e : Edge). (e, pos 1)) es
