-- What is promised of the edges of a contour's outline.
use Rattle.std.specs.Prelude.{ℕ, ◌≤◌, ◌≡◌, ◌^◌, List}
use Rattle.mesh_plane.specs.Plane.{Point, Edge}
use Rattle.mesh_plane.specs.Winding.{boundary, winding}
use Rattle.mesh_join.specs.Joins.{offset_padding}
use Rattle.mesh_join.specs.Styles.{OffsetJoin}
use Rattle.mesh_offset.specs.Drawing.{AreDrawn}
use Rattle.mesh_outline.specs.Outline.{outline_edges, outline_pieces}

-- what the edges of the contour's outline are promised
abbrev pub HasPromisedEdges : ℕ → OffsetJoin → List Point → Type 0
HasPromisedEdges unit style contour =
    AreDrawn (offset_padding style) style.offset contour (outline_pieces unit style contour)
    (outline_edges unit style contour)

-- at each point of each grid the edges wind as often as the contour
abbrev pub WindAsContour : List Point → List Edge → Type 0
WindAsContour contour es = (m : ℕ) (q : Point) → winding m q es ≡ winding m q (boundary contour)

-- a law, which the function of the same name in the module `laws` carries, for coordinates of a type with `unit`:
-- the edges of each contour's outline are balanced, near its vertices, and wind as the count of its pieces says
abbrev pub OutlinesAreDrawn : Type 0
OutlinesAreDrawn =
    (unit : ℕ) → 2 ^ 14 ≤ unit → (style : OffsetJoin) (contour : List Point) → HasPromisedEdges unit style contour
