-- What the stroke's builder asks.
use Rattle.std.specs.Prelude.{ℕ, Bool, ◌&&◌, ◌||◌, IsTrue, ℤ}
use Rattle.mesh_plane.specs.Plane.{Point}
use Rattle.mesh_num.specs.Rectangle.{IsSafeWidened}
use Rattle.mesh_join.specs.Styles.{JoinStyle}
use Rattle.mesh_join.specs.declared.style.StrokeSide.{StrokeSide}
use Rattle.mesh_stroke.specs.Caps.{CapKind, drawn_cap, draws_directly, has_few_edges}
use Rattle.mesh_stroke.specs.Styles.{StrokeStyle, stroke_padding}

-- a point that stays safe where it moves by at most the padding of the stroke
abbrev pub IsStrokable : ℕ → StrokeStyle → Point → Type 0
IsStrokable unit style p = IsSafeWidened unit (stroke_padding style) p

-- the path is closed, or neither cap that is drawn is round: no cap takes memory but for its edges
abbrev pub HasDirectCaps : StrokeStyle → Bool → Type 0
HasDirectCaps style closed =
    IsTrue (closed
    || (draws_directly (drawn_cap style.side style.start) && draws_directly (drawn_cap style.side style.end)))

-- the path is closed, or both caps that are drawn have at most three edges
abbrev pub HasFewCapEdges : StrokeStyle → Bool → Type 0
HasFewCapEdges style closed =
    IsTrue (closed
    || (has_few_edges (drawn_cap style.side style.start) && has_few_edges (drawn_cap style.side style.end)))

-- the style of these parts
abbrev pub style_with : ℤ → StrokeSide → JoinStyle → CapKind × CapKind → StrokeStyle
style_with radius side join caps =
    record { radius = radius; side = side; join = join; start = caps.0; end = caps.1 }
