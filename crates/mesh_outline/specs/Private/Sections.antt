-- What the steps of an outline ask and add. Private contracts alone read these.
use Rattle.std.specs.Prelude.{ℕ, ◌≡◌, ◌≢◌, List, ℤ, pos, unsigned_abs}
use Rattle.mesh_num.specs.Rectangle.{IsSafeWidened}
use Rattle.mesh_num.specs.Segments.{SignedEdge, segments_of, segment_between}
use Rattle.mesh_join.specs.Styles.{JoinStyle, OffsetJoin}
use Rattle.mesh_outline.specs.Building.{IsMovable}
use Rattle.mesh_outline.specs.Outline.{Section, SectionPair, own_edge, section_of, corner_edges, parts, joined}

-- an offset with the style of its joins
abbrev pub offset_join : ℤ → JoinStyle → OffsetJoin
offset_join offset join = record { offset = offset; join = join }

-- the section of an edge with different ends, both of which stay safe where they move by the offset's size
pub record IsMoved (unit : ℕ) (offset : ℤ) (s : Section) : Type 0 where
  pub made : s ≡ section_of unit offset (own_edge s)
  pub differ : s.a ≢ s.b
  pub safe_a : IsSafeWidened unit (pos (unsigned_abs offset)) s.a
  pub safe_b : IsSafeWidened unit (pos (unsigned_abs offset)) s.b

-- two sections that meet in a point that can be moved
pub record IsCorner (unit : ℕ) (style : OffsetJoin) (c : SectionPair) : Type 0 where
  pub previous : IsMoved unit style.offset c.0
  pub next : IsMoved unit style.offset c.1
  pub met : c.0.b ≡ c.1.a
  pub movable : IsMovable unit style c.0.b

-- what is drawn at a corner, as segments
abbrev pub corner_segments : ℕ → OffsetJoin → SectionPair → List SignedEdge
corner_segments unit style c = segments_of (corner_edges (parts style.offset) (joined unit style) c)

-- the moved edge of a section, as a segment
abbrev pub top_segments : Section → List SignedEdge
top_segments s = segment_between s.a_top s.b_top
