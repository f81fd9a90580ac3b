-- Halves: what is drawn on the left of a path and what is drawn on its right make the whole stroke.
use Rattle.std.specs.Prelude.{ℕ, ◌≤◌, ◌^◌, ◌≡◌, Bool, List, ◌+ℤ◌}
use Rattle.mesh_plane.specs.Plane.{Point, Edge}
use Rattle.mesh_plane.specs.Winding.{winding}
use Rattle.mesh_join.specs.declared.style.StrokeSide.{StrokeSide}
use Rattle.mesh_join.specs.declared.style.StrokeSide.TheVariants.{Both, Left, Right}
use Rattle.mesh_stroke.specs.Caps.{CapKind}
use Rattle.mesh_stroke.specs.Strokes.{stroke_edges}
use Rattle.mesh_stroke.specs.Styles.{StrokeStyle}

-- the style on this side alone
abbrev pub half_style : StrokeSide → StrokeStyle → StrokeStyle
half_style side style = record style { side = side }

-- the style on both sides, with butt caps
abbrev pub whole_style : StrokeStyle → StrokeStyle
whole_style style = record style { side = Both; start = CapKind.Butt; end = CapKind.Butt }

-- at each point of each grid the windings of the left and the right half of the stroke of the path through these points
-- add up to that of the whole with butt caps
abbrev pub HalvesAddUp : ℕ → StrokeStyle → Bool → List Point → Type 0
HalvesAddUp unit style closed points =
    (m : ℕ) (q : Point)
    → winding m q (stroke_edges unit (half_style Left style) closed points)
    +ℤ winding m q (stroke_edges unit (half_style Right style) closed points)
    ≡ winding m q (stroke_edges unit (whole_style style) closed points)

-- the edges wind, together with the half of the stroke on the other side, as the whole with butt caps
abbrev pub AddUpWith : StrokeSide → ℕ → StrokeStyle → Bool → List Point → List Edge → Type 0
AddUpWith other unit style closed points es =
    (m : ℕ) (q : Point)
    → winding m q es +ℤ winding m q (stroke_edges unit (half_style other style) closed points)
    ≡ winding m q (stroke_edges unit (whole_style style) closed points)

-- edges that are drawn as one half of the stroke make the whole with the other half
pub record MakeTheWhole (unit : ℕ) (style : StrokeStyle) (closed : Bool) (points : List Point) (es : List Edge)
    : Type 0 where
  pub left : style.side ≡ Left → AddUpWith Right unit style closed points es
  pub right : style.side ≡ Right → AddUpWith Left unit style closed points es

-- halves add up for every path, width, join and cap
abbrev pub HalvesMakeTheWhole : Type 0
HalvesMakeTheWhole =
    (unit : ℕ) → 2 ^ 14 ≤ unit → (style : StrokeStyle) (closed : Bool) (points : List Point)
    → HalvesAddUp unit style closed points
