-- The sides of split segments and their boundary, over pairs of whole numbers.
use Rattle.std.specs.Prelude.{ℕ, ◌≡◌, Bool, cond, ◌&&◌, ◌||◌, not, List, ℤ, ◌+ℤ◌, ◌-ℤ◌, count_by, int_lt}
use Rattle.std.specs.Ordering.{int_eq}
use Rattle.mesh_plane.specs.Plane.{Point, Edge, plus}
use Rattle.mesh_plane.specs.Winding.{winding}
use Rattle.mesh_lattice.specs.Split.{same_edge, occurs}
use Rattle.mesh_lattice.specs.Counted.{net}

-- how often an edge stands in a list
abbrev pub count : Edge → List Edge → ℕ
count e es = count_by (same_edge e) es

-- upwards, or level and to the west
unfoldable pub rises : Edge → Bool
rises e = int_lt e.0.1 e.1.1 || (int_eq e.0.1 e.1.1 && int_lt e.1.0 e.0.0)

-- an edge's midpoint, on the grid 2
abbrev pub middle : Edge → Point
middle e = plus e.0 e.1

-- the winding on the east side of a segment, or above a level one
abbrev pub winding_beside : List Edge → Edge → ℤ
winding_beside es e = winding 2 (middle e) es

-- the winding on an edge's left: that on its right and the edge's net count more
abbrev pub left_winding : List Edge → Edge → ℤ
left_winding es e = cond (rises e) (winding_beside es e +ℤ net e es) (winding_beside es e)

-- the winding on an edge's right: that on its left less the edge's net count
abbrev pub right_winding : List Edge → Edge → ℤ
right_winding es e = cond (rises e) (winding_beside es e) (winding_beside es e -ℤ net e es)

-- each segment once whose two sides differ in fill, directed with the filled side on its left, and no other edge
pub record IsBoundary (es : List Edge) (fill : ℤ → Bool) (bs : List Edge) : Type 0 where
  pub counts : (e : Edge) →
      count e bs ≡ cond (occurs e es && (fill (left_winding es e) && not (fill (right_winding es e)))) 1 0
