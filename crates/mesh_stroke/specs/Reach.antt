-- How far strokes reach from their paths, as twice the square of a distance.
use Rattle.std.specs.Prelude.{ℕ, ◌*◌, ◌<◌, ◌≤◌, ◌^◌, ◌≡◌, ◌≢◌, max, Bool, true, false, ◌&&◌, ◌||◌, IsTrue, List, ℤ, pos}
use Rattle.std.specs.Prelude.{unsigned_abs}
use Rattle.std.specs.List.{All, flat_map}
use Rattle.mesh_plane.specs.Plane.{Point, Edge}
use Rattle.mesh_plane.specs.Winding.{winding}
use Rattle.mesh_shapes.specs.Resolution.{Choices}
use Rattle.mesh_join.specs.declared.style.IntLineJoin.{IntLineJoin}
use Rattle.mesh_join.specs.declared.style.IntLineJoin.TheVariants.{Bevel, Miter, Round}
use Rattle.mesh_join.specs.declared.style.StrokeSide.{StrokeSide}
use Rattle.mesh_join.specs.declared.style.StrokeSide.TheVariants.{Both, Left, Right}
use Rattle.mesh_reach.specs.Joins.{rounded_reach, join_reach}
use Rattle.mesh_reach.specs.Reach.{IsReachedByOne, IsReachedWithin, HoldsNear}
use Rattle.mesh_offset.specs.Adding.{answer_edges}
use Rattle.mesh_stroke.specs.Caps.{CapKind, drawn_cap}
use Rattle.mesh_stroke.specs.CustomCaps.{greatest_length}
use Rattle.mesh_stroke.specs.Paths.{path_edges}
use Rattle.mesh_stroke.specs.Regions.{AreStrokeRegionsBeyond}
use Rattle.mesh_stroke.specs.Strokes.{stroke_edges, stroke_pieces}
use Rattle.mesh_stroke.specs.Styles.{StrokeStyle}

-- how far a cap of each kind reaches from its end
abbrev pub cap_reach : CapKind → ℤ → ℕ
cap_reach CapKind.Butt radius = rounded_reach (unsigned_abs radius)
cap_reach CapKind.Square radius = 2 * rounded_reach (unsigned_abs radius)
cap_reach (CapKind.Round _) radius = rounded_reach (unsigned_abs radius)
cap_reach (CapKind.Custom points) radius = rounded_reach (greatest_length points)

-- how far the caps reach that are drawn; a closed path and a half have none
abbrev pub caps_reach : StrokeSide → Bool → CapKind → CapKind → ℤ → ℕ
caps_reach Both true start end radius = 0
caps_reach Both false start end radius = max (cap_reach start radius) (cap_reach end radius)
caps_reach Left closed start end radius = 0
caps_reach Right closed start end radius = 0

-- how far a stroke reaches from its path
abbrev pub stroke_reach : StrokeStyle → Bool → ℕ
stroke_reach style closed =
    max (join_reach style.join.kind style.radius) (caps_reach style.side closed style.start style.end style.radius)

-- each point that a piece of a stroke holds is so near to a section of the path
abbrev pub StrokesReach : Type 0
StrokesReach =
    (unit : ℕ) → 2 ^ 14 ≤ unit → (style : StrokeStyle) (closed : Bool) (points : List Point)
    → All (HoldsNear (stroke_reach style closed) (path_edges closed points)) (stroke_pieces unit style closed points)

-- and so is each point round which edges wind
abbrev pub WindWithinReach : StrokeStyle → Bool → List Point → List Edge → Type 0
WindWithinReach style closed points es =
    (m : ℕ) (q : Point) → winding m q es ≢ pos 0
    → IsReachedByOne (stroke_reach style closed) m (path_edges closed points) q

-- the edges of a stroke wind so
abbrev pub StrokeEdgesReach : Type 0
StrokeEdgesReach =
    (unit : ℕ) → 2 ^ 14 ≤ unit → (style : StrokeStyle) (closed : Bool) (points : List Point)
    → WindWithinReach style closed points (stroke_edges unit style closed points)

-- the sections of all paths
abbrev pub all_sections : Bool → List (List Point) → List Edge
all_sections closed paths = flat_map (path_edges closed) paths

-- with no least area and outer contours counterclockwise, each point round which an answer winds lies within `k` of a
-- point as near to a section of a path as the stroke reaches
abbrev pub WindsWithinReach : ℕ → StrokeStyle → Bool → Choices → List (List Point) → List (List (List Point)) → Type 0
WindsWithinReach k style closed choices paths answer =
    choices.least_area ≡ 0 → choices.clockwise ≡ false → (m : ℕ) → 0 < m → (q : Point)
    → winding m q (answer_edges answer) ≢ pos 0
    → IsReachedWithin k (stroke_reach style closed) m (all_sections closed paths) q

-- so does that of a stroke, with its nearness `k`
abbrev pub StrokeAnswersReach : Type 0
StrokeAnswersReach =
    (unit : ℕ) → 2 ^ 14 ≤ unit → (k : ℕ) (style : StrokeStyle) (closed : Bool) (choices : Choices)
    (paths : List (List Point)) (answer : List (List (List Point)))
    → AreStrokeRegionsBeyond k unit style closed choices paths answer
    → WindsWithinReach k style closed choices paths answer

-- whether a join of each kind reaches no farther than the radius, but for rounding
abbrev pub join_keeps_radius : IntLineJoin → Bool
join_keeps_radius Bevel = true
join_keeps_radius (Miter _) = false
join_keeps_radius (Round _) = true

-- and whether a cap does
abbrev pub cap_keeps_radius : CapKind → Bool
cap_keeps_radius CapKind.Butt = true
cap_keeps_radius CapKind.Square = false
cap_keeps_radius (CapKind.Round _) = true
cap_keeps_radius (CapKind.Custom _) = false

-- the joins of a stroke do, and the caps that are drawn
abbrev pub KeepsRadius : StrokeStyle → Bool → Type 0
KeepsRadius style closed =
    IsTrue (join_keeps_radius style.join.kind
    && (closed
    || (cap_keeps_radius (drawn_cap style.side style.start) && cap_keeps_radius (drawn_cap style.side style.end))))

-- such a stroke reaches as far as its radius and rounding
abbrev pub KeptRadiiReach : Type 0
KeptRadiiReach =
    (style : StrokeStyle) (closed : Bool) → KeepsRadius style closed
    → stroke_reach style closed ≡ rounded_reach (unsigned_abs style.radius)
