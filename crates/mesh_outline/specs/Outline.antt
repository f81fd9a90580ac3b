-- Outlines: how a contour that is moved sideways by an offset is drawn, and the pieces between it and the contour.
use Rattle.std.specs.Prelude.{ℕ, Bool, cond, List, [], ◌∷◌, ◌++◌, map, ℤ, pos, unsigned_abs, int_lt}
use Rattle.std.specs.Ordering.{int_eq}
use Rattle.std.specs.List.{flat_map}
use Rattle.std.proofs.Math.Bool.{beq}
use Rattle.mesh_plane.specs.Plane.{Point, Edge, plus, minus, cross, dot, right_quarter}
use Rattle.mesh_num.specs.Direction.{scaled_direction}
use Rattle.mesh_num.specs.Directed.{direction_of}
use Rattle.mesh_num.specs.Segments.{proper_edges}
use Rattle.mesh_plane.specs.Winding.{boundary, fan}
use Rattle.mesh_join.specs.Cleaned.{cleaned_sections}
use Rattle.mesh_join.specs.Joins.{join_points, through}
use Rattle.mesh_join.specs.Joints.{Joint, joint}
use Rattle.mesh_join.specs.Styles.{OffsetJoin}
use Rattle.mesh_arc.specs.declared.arc.ArcDirection.{ArcDirection}
use Rattle.mesh_arc.specs.declared.arc.ArcDirection.TheVariants.{Clockwise, Counterclockwise}

-- an edge of the contour from `a` to `b`, its direction, and where the two ends lie once it has been moved
pub record Section : Type 0 where
  pub a : Point
  pub b : Point
  pub direction : Point
  pub a_top : Point
  pub b_top : Point

-- two neighbouring sections: the second starts where the first ends
abbrev pub SectionPair : Type 0
SectionPair = Section × Section

-- the edge itself
abbrev pub own_edge : Section → Edge
own_edge s = (s.a, s.b)

-- the moved edge
abbrev pub top_edge : Section → Edge
top_edge s = (s.a_top, s.b_top)

-- the piece between an edge and the moved edge
abbrev pub strip : Section → List Point
strip s = s.a ∷ s.a_top ∷ s.b_top ∷ s.b ∷ []

-- an inner corner goes from the one top to the vertex and from there to the other
abbrev pub inner_edges : SectionPair → List Edge
inner_edges c = (c.0.b_top, c.0.b) ∷ (c.1.a, c.1.a_top) ∷ []

-- an outer corner goes from top to top through the points of its join; there are none where the tops are equal
abbrev pub outer_edges : (SectionPair → List Point) → SectionPair → List Edge
outer_edges join c = through c.0.b_top (join c) c.1.a_top

-- what is drawn at a corner
abbrev pub corner_edges : (SectionPair → Bool) → (SectionPair → List Point) → SectionPair → List Edge
corner_edges is_outer join c = cond (is_outer c) (outer_edges join c) (inner_edges c)

-- the pieces at a corner: the fan of an outer one's join
abbrev pub corner_pieces : (SectionPair → Bool) → (SectionPair → List Point) → SectionPair → List (List Point)
corner_pieces is_outer join c = cond (is_outer c) (fan c.0.b (outer_edges join c)) []

-- what is drawn over a closed list of sections: the moved edges and what is drawn at the corners
unfoldable pub drawn_edges : (SectionPair → Bool) → (SectionPair → List Point) → List Section → List Edge
drawn_edges is_outer join sections =
    proper_edges (map top_edge sections ++ flat_map (corner_edges is_outer join) (boundary sections))

-- the pieces between that and the sections' own edges
unfoldable pub drawn_pieces : (SectionPair → Bool) → (SectionPair → List Point) → List Section → List (List Point)
drawn_pieces is_outer join sections = map strip sections ++ flat_map (corner_pieces is_outer join) (boundary sections)

-- the vector by which an edge along `v` moves: to its right by `offset`, to its left where that is negative
abbrev pub sideways : ℕ → ℤ → Point → Point
sideways unit offset v = right_quarter (scaled_direction unit offset (direction_of unit v))

-- the section of an edge: it is moved sideways by the offset
abbrev pub section_of : ℕ → ℤ → Edge → Section
section_of unit offset e = record {
  a = e.0;
  b = e.1;
  direction = direction_of unit (minus e.1 e.0);
  a_top = plus e.0 (sideways unit offset (minus e.1 e.0));
  b_top = plus e.1 (sideways unit offset (minus e.1 e.0));
}

-- at an outer corner the moved edges part: the contour turns away from the side they are moved to, or turns back
abbrev pub parts : ℤ → SectionPair → Bool
parts offset c =
    let next = minus c.1.b c.1.a in
    let previous = minus c.0.b c.0.a in
    cond (int_eq (cross next previous) (pos 0)) (int_lt (dot next previous) (pos 0))
    (beq (int_lt (pos 0) (cross next previous)) (int_lt offset (pos 0)))

-- the sense of the joins: to the left, for a negative offset to the right
abbrev pub sense_for : ℤ → ArcDirection
sense_for offset = cond (int_lt offset (pos 0)) Clockwise Counterclockwise

-- what the join of an outer corner is asked for
abbrev pub joint_at : ℤ → SectionPair → Joint
joint_at offset c =
    joint c.0.b c.0.b_top c.1.a_top c.0.direction c.1.direction (pos (unsigned_abs offset)) (sense_for offset)

-- the points of that join
abbrev pub joined : ℕ → OffsetJoin → SectionPair → List Point
joined unit style c = join_points unit style.join (joint_at style.offset c)

-- the outline of a ring of edges: they are moved by the offset and joined at the outer corners
abbrev pub closed_outline : ℕ → OffsetJoin → List Edge → List Edge
closed_outline unit style contour =
    drawn_edges (parts style.offset) (joined unit style) (map (section_of unit style.offset) contour)

-- its pieces; the offset 0 has none
abbrev pub closed_pieces : ℕ → OffsetJoin → List Edge → List (List Point)
closed_pieces unit style contour =
    cond (int_eq style.offset (pos 0)) []
    (drawn_pieces (parts style.offset) (joined unit style) (map (section_of unit style.offset) contour))

-- the edges of the outline of the contour of these points
abbrev pub outline_edges : ℕ → OffsetJoin → List Point → List Edge
outline_edges unit style points = closed_outline unit style (cleaned_sections points)

-- its pieces: the strips between the edges and the moved edges, and the triangles of the joins
abbrev pub outline_pieces : ℕ → OffsetJoin → List Point → List (List Point)
outline_pieces unit style points = closed_pieces unit style (cleaned_sections points)
