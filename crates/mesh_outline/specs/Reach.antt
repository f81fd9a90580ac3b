-- How far outlines reach from their contours, as twice the square of a distance.
use Rattle.std.specs.Prelude.{ℕ, ◌<◌, ◌≤◌, ◌^◌, ◌≡◌, ◌≢◌, max, Bool, false, ◌&&◌, List, pos, int_lt, count_by}
use Rattle.std.specs.List.{All, flat_map}
use Rattle.mesh_plane.specs.Plane.{Point, Edge}
use Rattle.mesh_plane.specs.Winding.{boundary, winding}
use Rattle.mesh_lattice.specs.Counted.{bit}
use Rattle.mesh_shapes.specs.Contours.{double_area}
use Rattle.mesh_shapes.specs.Resolution.{Choices}
use Rattle.mesh_join.specs.Cleaned.{cleaned_sections}
use Rattle.mesh_join.specs.Styles.{OffsetJoin, OutlineStyle, outer, inner}
use Rattle.mesh_reach.specs.Joins.{join_reach}
use Rattle.mesh_reach.specs.Reach.{IsReachedByOne, IsReachedWithin, HoldsNear}
use Rattle.mesh_offset.specs.Adding.{answer_edges}
use Rattle.mesh_outline.specs.Nearness.{AreOutlineRegionsBeyond}
use Rattle.mesh_outline.specs.Outline.{outline_edges, outline_pieces}

-- how far an outline reaches from its contour, on either side
abbrev pub outline_reach : OffsetJoin → ℕ
outline_reach style = join_reach style.join.kind style.offset

-- how far an outline reaches from its contours, by the offset that reaches farther
abbrev pub both_reach : OutlineStyle → ℕ
both_reach style = max (outline_reach (outer style)) (outline_reach (inner style))

-- each point that a piece of an outline holds is so near to a section of the contour
abbrev pub OutlinesReach : Type 0
OutlinesReach =
    (unit : ℕ) → 2 ^ 14 ≤ unit → (style : OffsetJoin) (contour : List Point)
    → All (HoldsNear (outline_reach style) (cleaned_sections contour)) (outline_pieces unit style contour)

-- and so is each point round which edges wind otherwise than the contour
abbrev pub DifferWithinReach : OffsetJoin → List Point → List Edge → Type 0
DifferWithinReach style contour es =
    (m : ℕ) (q : Point) → winding m q es ≢ winding m q (boundary contour)
    → IsReachedByOne (outline_reach style) m (cleaned_sections contour) q

-- the edges of an outline wind so
abbrev pub OutlineEdgesReach : Type 0
OutlineEdgesReach =
    (unit : ℕ) → 2 ^ 14 ≤ unit → (style : OffsetJoin) (contour : List Point)
    → DifferWithinReach style contour (outline_edges unit style contour)

-- a contour of positive area that winds above 0 round the point
abbrev pub encloses : ℕ → Point → List Point → Bool
encloses m q contour = int_lt (pos 0) (double_area contour) && int_lt (pos 0) (winding m q (boundary contour))

-- a contour of negative area that winds below 0 round it
abbrev pub excludes : ℕ → Point → List Point → Bool
excludes m q contour = int_lt (double_area contour) (pos 0) && int_lt (winding m q (boundary contour)) (pos 0)

-- the point is inside contours: more of them enclose it than exclude it
abbrev pub is_inside : List (List Point) → ℕ → Point → Bool
is_inside contours m q =
    int_lt (pos (count_by (excludes m q) contours)) (pos (count_by (encloses m q) contours))

-- the sections of all contours
abbrev pub contour_sections : List (List Point) → List Edge
contour_sections contours = flat_map cleaned_sections contours

-- with no least area and outer contours counterclockwise, an answer winds once round each point inside the contours and
-- round no other, but for points that lie within `k` of a point as near to a section as the outline reaches
abbrev pub DiffersWithinReach : ℕ → OutlineStyle → Choices → List (List Point) → List (List (List Point)) → Type 0
DiffersWithinReach k style choices contours answer =
    choices.least_area ≡ 0 → choices.clockwise ≡ false → (m : ℕ) → 0 < m → (q : Point)
    → winding m q (answer_edges answer) ≢ bit (is_inside contours m q)
    → IsReachedWithin k (both_reach style) m (contour_sections contours) q

-- so does that of an outline, with its nearness `k`
abbrev pub OutlineAnswersReach : Type 0
OutlineAnswersReach =
    (unit : ℕ) → 2 ^ 14 ≤ unit → (k : ℕ) (style : OutlineStyle) (choices : Choices) (contours : List (List Point))
    (answer : List (List (List Point))) → AreOutlineRegionsBeyond k unit style choices contours answer
    → DiffersWithinReach k style choices contours answer
