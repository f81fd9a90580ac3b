-- What is known midway of the windings beside segments.
use Rattle.std.specs.Prelude.{ℕ, ◌≡◌, Bool, List, ℤ, Option, None, IfSome, slice_index_or}
use Rattle.mesh_plane.specs.Plane.{Point, Edge}
use Rattle.mesh_plane.specs.Winding.{refined, winding}
use Rattle.mesh_lattice.specs.Boundary.{left_winding, right_winding}
use Rattle.mesh_lattice.specs.Counted.{Counted, IsCountOf}
use Rattle.mesh_regions.specs.SideLaws.{AreSplit}
use Rattle.mesh_boundary.specs.declared.flood.Flood.{Flood}
use Rattle.mesh_boundary.specs.declared.stars.Stars.{Stars}
use Rattle.mesh_boundary.specs.Private.Rounds.{AreNext}
use Rattle.mesh_boundary.specs.Private.Stars.{segment, CountSplit, HaveStars}

-- what holds of all split edges that have these counts
abbrev pub OfSplitEdges : List Counted → (List Edge → Type 0) → Type 0
OfSplitEdges ks Holds = (es : List Edge) → IsCountOf es ks → AreSplit es → Holds es

-- a number is the winding of edges at a point
abbrev pub IsLevel : List Edge → Point × ℤ → Type 0
IsLevel es l = winding 2 (refined 2 l.0) es ≡ l.1

-- a number is the winding to the right of an edge
abbrev pub IsRight : List Edge → Edge → ℤ → Type 0
IsRight es e r = r ≡ right_winding es e

-- where the winding to the right of a segment is known it is right
pub record AreKnown (es : List Edge) (ks : List Counted) (known : List (Option ℤ)) : Type 0 where
  pub each : (k : ℕ) → IfSome (slice_index_or known k None) (IsRight es (segment ks k).0)

-- the windings to the left and to the right of an edge
abbrev pub windings_beside : List Edge → Edge → ℤ × ℤ
windings_beside es e = (left_winding es e, right_winding es e)

-- where the second end is the next neighbour of the first, and `right` is the winding to the right of the first one's
-- segment, `found` is that to the right of the second one's, if it is found
abbrev pub IsRightPast : List Counted → ℕ × Bool → ℕ × Bool → ℤ → Option ℤ → Type 0
IsRightPast ks x y right found =
    (es : List Edge) → CountSplit es ks → AreNext es ks x y → IsRight es (segment ks x.0).0 right
    → IfSome found (λ r. IsRight es (segment ks y.0).0 r)

-- where the segment `k` starts at a point with its winding, what is known stays right
abbrev pub StaysRight : List Counted → Stars → Point × ℤ → ℕ → Flood → Flood → Type 0
StaysRight ks stars l k old new =
    (es : List Edge) → HaveStars es ks stars.parts.items stars.members.items stars.ends.items
    → l.0 ≡ (segment ks k).0.0 → IsLevel es l → AreKnown es ks old.known.items → AreKnown es ks new.known.items
