-- Laws of the sides of split segments. The function of the same name in the module `laws` carries each.
use Rattle.std.specs.Prelude.{List, ◌+ℤ◌, ℕ, ◌<◌, ◌≡◌, true}
use Rattle.mesh_plane.specs.Plane.{Edge, Point}
use Rattle.mesh_plane.specs.Winding.{IsBalanced, refined, winding}
use Rattle.mesh_lattice.specs.Clean.{IsClean, IsProper, refined_edge}
use Rattle.mesh_lattice.specs.Boundary.{winding_beside, left_winding, right_winding}
use Rattle.mesh_lattice.specs.Split.{occurs, IsInside}
use Rattle.mesh_regions.specs.Star.{net_before, AreNeighbours}

-- balanced edges of which any two have the same ends or share only common ends, as split segments are
pub record AreSplit (es : List Edge) : Type 0 where
  pub balanced : IsBalanced es
  pub clean : IsClean es
  pub proper : IsProper es

-- at each point inside a split segment, on every grid, the winding is the one beside it: each side has one winding
abbrev pub SidesAreConstant : Type 0
SidesAreConstant =
    (es : List Edge) → AreSplit es → (e : Edge) → occurs e es ≡ true
    → (m : ℕ) → 0 < m → (q : Point) → IsInside (refined_edge m e) q → winding m q es ≡ winding_beside es e

-- the winding on a segment's right is that at its start, on every grid, and the net count of what leaves the start
-- before it
abbrev pub SidesFollowFromEnds : Type 0
SidesFollowFromEnds =
    (es : List Edge) → AreSplit es → (e : Edge) → occurs e es ≡ true
    → (m : ℕ) → 0 < m → right_winding es e ≡ winding m (refined m e.0) es +ℤ net_before e es

-- round its start each segment has a neighbour, the next segment counterclockwise
abbrev pub SegmentsHaveNeighbours : Type 0
SegmentsHaveNeighbours =
    (es : List Edge) → AreSplit es → (s : Edge) → occurs s es ≡ true → (t : Edge) × AreNeighbours es s t

-- where two segments at a vertex neighbour in angle, the sides that face each other have one winding: the left of the
-- first and the right of the second, counterclockwise
abbrev pub FacingSidesAgree : Type 0
FacingSidesAgree =
    (es : List Edge) → AreSplit es → (s t : Edge) → AreNeighbours es s t
    → left_winding es s ≡ right_winding es t
