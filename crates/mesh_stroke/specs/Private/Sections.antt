-- Sections of a path and what is asked of them. Private contracts alone read these.
use Rattle.std.specs.Prelude.{ℕ, ◌≡◌, ◌≢◌, List, [], ◌++◌, ℤ, pos, ◌+ℤ◌, ◌≤ℤ◌, unsigned_abs}
use Rattle.std.specs.Prelude.{Bool, true, false, if◌then◌else◌, length}
use Rattle.std.specs.declared.alloc.Global.{Global}
use Rattle.std.specs.declared.vec.Vec.{Vec}
use Rattle.mesh_plane.specs.Plane.{Point, Edge}
use Rattle.mesh_plane.specs.Winding.{winding}
use Rattle.mesh_lattice.specs.Split.{back}
use Rattle.mesh_num.specs.Rectangle.{IsSafeWidened}
use Rattle.mesh_join.specs.Joins.{join_padding}
use Rattle.mesh_join.specs.Styles.{JoinStyle}
use Rattle.mesh_join.specs.declared.style.StrokeSide.{StrokeSide}
use Rattle.mesh_join.specs.declared.style.StrokeSide.TheVariants.{Both, Left, Right}
use Rattle.mesh_offset.specs.Adding.{HasRoomFor}
use Rattle.mesh_stroke.specs.Caps.{CapKind, cap_padding}
use Rattle.mesh_stroke.specs.Paths.{path_edges}
use Rattle.mesh_stroke.specs.Strokes.{EdgePair, heading, right_of, left_of, inner_edges, outer_edges}
use Rattle.mesh_stroke.specs.Strokes.{cap_pieces, drawn_edges, open_pieces}
use Rattle.mesh_stroke.specs.Styles.{StrokeStyle}

-- an edge of a path, its direction, and the points beside both of its ends
pub record Section : Type 0 where
  pub a : Point
  pub b : Point
  pub direction : Point
  pub a_left : Point
  pub a_right : Point
  pub b_left : Point
  pub b_right : Point

-- the section of an edge
abbrev pub section_of : ℕ → ℤ → Edge → Section
section_of unit radius e = record {
  a = e.0;
  b = e.1;
  direction = heading unit e;
  a_left = left_of unit radius e e.0;
  a_right = right_of unit radius e e.0;
  b_left = left_of unit radius e e.1;
  b_right = right_of unit radius e e.1;
}

-- the section with the side that is not drawn moved onto the path
abbrev pub on_side : StrokeSide → Section → Section
on_side Both s = s
on_side Left s = record s { a_right = s.a; b_right = s.b }
on_side Right s = record s { a_left = s.a; b_left = s.b }

-- the side that is drawn, seen from the other end
abbrev pub opposite_side : StrokeSide → StrokeSide
opposite_side Both = Both
opposite_side Left = Right
opposite_side Right = Left

-- the side that is drawn, as a corner is faced: one that turns to the right is seen from its other end
abbrev pub faced_side : StrokeSide → Bool → StrokeSide
faced_side side true = opposite_side side
faced_side side false = side

-- what is drawn on this side at a corner that does not turn to the right
abbrev pub faced_edges : ℕ → ℤ → StrokeSide → JoinStyle → EdgePair → List Edge
faced_edges unit radius Both join c = inner_edges unit radius c ++ outer_edges unit radius join c
faced_edges unit radius Left join c = inner_edges unit radius c
faced_edges unit radius Right join c = outer_edges unit radius join c

-- at each point of each grid the windings of what is drawn on these two sides of a faced corner add up to that of what
-- is drawn on both
pub record CornersAddUp (one other : StrokeSide) : Type 0 where
  pub sum :
      (unit : ℕ) (radius : ℤ) (join : JoinStyle) (c : EdgePair) (m : ℕ) (q : Point)
      → winding m q (faced_edges unit radius one join c) +ℤ winding m q (faced_edges unit radius other join c)
      ≡ winding m q (faced_edges unit radius Both join c)

-- the pieces that count at the ends of an open path on this side: those of its caps, where it has them, else none
abbrev pub CapsCount : StrokeSide → Bool → Type 0
CapsCount side capped =
    (unit : ℕ) (radius : ℤ) (start end : CapKind) (first last : Edge)
    → open_pieces unit radius side start end first last
    ≡ (if capped then cap_pieces unit radius start (back first) ++ cap_pieces unit radius end last else [])

-- its edge
abbrev pub own_edge : Section → Edge
own_edge s = (s.a, s.b)

-- the section of an edge with different ends, both of which stay safe where they move by the radius
pub record IsMade (unit : ℕ) (radius : ℤ) (s : Section) : Type 0 where
  pub made : s ≡ section_of unit radius (own_edge s)
  pub differ : s.a ≢ s.b
  pub safe_a : IsSafeWidened unit (pos (unsigned_abs radius)) s.a
  pub safe_b : IsSafeWidened unit (pos (unsigned_abs radius)) s.b

-- two sections that meet in a point round which a join can be drawn
pub record IsCorner (unit : ℕ) (radius : ℤ) (join : JoinStyle) (c : Section × Section) : Type 0 where
  pub previous : IsMade unit radius c.0
  pub next : IsMade unit radius c.1
  pub met : c.0.b ≡ c.1.a
  pub sign : pos 0 ≤ℤ radius
  pub movable : IsSafeWidened unit (join_padding join.kind radius) c.0.b

-- the sections of the first and the last edge of an open path, at whose ends caps of these kinds can be drawn
pub record AreEnds (unit : ℕ) (radius : ℤ) (start end : CapKind) (s t : Section) : Type 0 where
  pub first : IsMade unit radius s
  pub last : IsMade unit radius t
  pub sign : pos 0 ≤ℤ radius
  pub safe_start : IsSafeWidened unit (cap_padding start radius) s.a
  pub safe_end : IsSafeWidened unit (cap_padding end radius) t.b

-- the vector has room for the edges that are drawn along the path through these points, whatever the radius
abbrev pub HasRoomToDraw : {X : Type 0} → Vec X Global → ℕ → StrokeStyle → Bool → List Point → Type 0
HasRoomToDraw v unit style closed points =
    HasRoomFor v (length (drawn_edges unit style closed (path_edges closed points)))
