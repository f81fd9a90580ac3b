-- Strokes: how a path with a width is drawn, and the pieces that it is made of.
use Rattle.std.specs.Prelude.{ℕ, Bool, true, false, if◌then◌else◌, List, [], ◌∷◌, ◌++◌, map, ℤ, pos, int_lt, int_le}
use Rattle.std.specs.List.{flat_map}
use Rattle.mesh_plane.specs.Plane.{Point, Edge, minus, cross}
use Rattle.mesh_plane.specs.Winding.{fan}
use Rattle.mesh_plane.specs.Turning.{last_of}
use Rattle.mesh_num.specs.Directed.{direction_of}
use Rattle.mesh_num.specs.Segments.{proper_edges}
use Rattle.mesh_lattice.specs.Split.{back}
use Rattle.mesh_join.specs.Joins.{join_edges}
use Rattle.mesh_join.specs.Joints.{Joint, joint, contact}
use Rattle.mesh_join.specs.Styles.{JoinStyle}
use Rattle.mesh_join.specs.declared.style.StrokeSide.{StrokeSide}
use Rattle.mesh_join.specs.declared.style.StrokeSide.TheVariants.{Both, Left, Right}
use Rattle.mesh_arc.specs.declared.arc.ArcDirection.TheVariants.{Clockwise, Counterclockwise}
use Rattle.mesh_stroke.specs.Caps.{CapKind, cap_edges}
use Rattle.mesh_stroke.specs.Ends.{half_turn}
use Rattle.mesh_stroke.specs.Paths.{neighbours, path_edges}
use Rattle.mesh_stroke.specs.Styles.{StrokeStyle}

-- two edges of a path: the second starts where the first ends
abbrev pub EdgePair : Type 0
EdgePair = Edge × Edge

-- the direction of an edge
abbrev pub heading : ℕ → Edge → Point
heading unit e = direction_of unit (minus e.1 e.0)

-- the point to the right of the point `v` of an edge, and the one to its left
abbrev pub right_of : ℕ → ℤ → Edge → Point → Point
right_of unit radius e v = contact unit radius Counterclockwise v (heading unit e)

abbrev pub left_of : ℕ → ℤ → Edge → Point → Point
left_of unit radius e v = contact unit radius Clockwise v (heading unit e)

-- where the right side of an edge that is drawn lies beside its point `v`: a left half has the path itself there
abbrev pub right_end : ℕ → ℤ → StrokeSide → Edge → Point → Point
right_end unit radius Both e v = right_of unit radius e v
right_end unit radius Left e v = v
right_end unit radius Right e v = right_of unit radius e v

-- and its left side: a right half has the path itself there
abbrev pub left_end : ℕ → ℤ → StrokeSide → Edge → Point → Point
left_end unit radius Both e v = left_of unit radius e v
left_end unit radius Left e v = left_of unit radius e v
left_end unit radius Right e v = v

-- an edge is drawn on its right as it runs, and on its left back
abbrev pub side_edges : ℕ → ℤ → StrokeSide → Edge → List Edge
side_edges unit radius side e =
    (right_end unit radius side e e.0, right_end unit radius side e e.1)
    ∷ (left_end unit radius side e e.1, left_end unit radius side e e.0)
    ∷ []

-- the piece between both sides
abbrev pub section_piece : ℕ → ℤ → StrokeSide → Edge → List Point
section_piece unit radius side e =
    right_end unit radius side e e.0 ∷ right_end unit radius side e e.1
    ∷ left_end unit radius side e e.1 ∷ left_end unit radius side e e.0
    ∷ []

-- whether a path turns to the right at a corner
abbrev pub turns_right : EdgePair → Bool
turns_right c = int_lt (cross (minus c.0.1 c.0.0) (minus c.1.1 c.1.0)) (pos 0)

-- a corner seen so that it turns to the left or not at all: one that turns to the right is seen from its other end
abbrev pub facing : EdgePair → EdgePair
facing c = if turns_right c then (back c.1, back c.0) else c

-- the joint on the right of a corner that turns to the left
abbrev pub joint_right : ℕ → ℤ → EdgePair → Joint
joint_right unit radius c =
    joint c.0.1 (right_of unit radius c.0 c.0.1) (right_of unit radius c.1 c.1.0)
    (heading unit c.0) (heading unit c.1) radius Counterclockwise

-- the edges of its join
abbrev pub outer_edges : ℕ → ℤ → JoinStyle → EdgePair → List Edge
outer_edges unit radius join c = join_edges unit join (joint_right unit radius c)

-- on its left the sides are connected through the vertex
abbrev pub inner_edges : ℕ → ℤ → EdgePair → List Edge
inner_edges unit radius c = (left_of unit radius c.1 c.1.0, c.1.0) ∷ (c.0.1, left_of unit radius c.0 c.0.1) ∷ []

-- what is drawn at a corner: a half takes the join where it lies on the side that the path turns away from, and else
-- the edges through the vertex. Where the path turns exactly back, the join is on its right
abbrev pub corner_edges : ℕ → ℤ → StrokeSide → JoinStyle → EdgePair → List Edge
corner_edges unit radius Both join c = inner_edges unit radius (facing c) ++ outer_edges unit radius join (facing c)
corner_edges unit radius Left join c =
    if turns_right c then outer_edges unit radius join (facing c) else inner_edges unit radius (facing c)
corner_edges unit radius Right join c =
    if turns_right c then inner_edges unit radius (facing c) else outer_edges unit radius join (facing c)

-- the pieces of the join at a corner
abbrev pub join_pieces : ℕ → ℤ → JoinStyle → EdgePair → List (List Point)
join_pieces unit radius join c = fan (facing c).0.1 (outer_edges unit radius join (facing c))

-- the pieces at a corner
abbrev pub corner_pieces : ℕ → ℤ → StrokeSide → JoinStyle → EdgePair → List (List Point)
corner_pieces unit radius Both join c = join_pieces unit radius join c
corner_pieces unit radius Left join c = if turns_right c then join_pieces unit radius join c else []
corner_pieces unit radius Right join c = if turns_right c then [] else join_pieces unit radius join c

-- the cap at the end of an edge; one at its start is that at the end of the edge read backwards
abbrev pub cap_at : ℕ → ℤ → CapKind → Edge → List Edge
cap_at unit radius kind e = cap_edges kind unit (half_turn unit radius e.1 (heading unit e))

-- the pieces of a cap
abbrev pub cap_pieces : ℕ → ℤ → CapKind → Edge → List (List Point)
cap_pieces unit radius kind e = fan e.1 (cap_at unit radius kind e)

-- the straight ends of a half of an open path with this first and this last edge
abbrev pub half_ends : ℕ → ℤ → StrokeSide → Edge → Edge → List Edge
half_ends unit radius side first last =
    (left_end unit radius side first first.0, right_end unit radius side first first.0)
    ∷ (right_end unit radius side last last.1, left_end unit radius side last last.1)
    ∷ []

-- the ends of an open path: its caps, or the straight ends of a half
abbrev pub open_ends : ℕ → ℤ → StrokeSide → CapKind → CapKind → Edge → Edge → List Edge
open_ends unit radius Both start end first last = cap_at unit radius start (back first) ++ cap_at unit radius end last
open_ends unit radius Left start end first last = half_ends unit radius Left first last
open_ends unit radius Right start end first last = half_ends unit radius Right first last

-- the ends of a path with this first and this last edge; a closed path has none
abbrev pub path_ends : ℕ → ℤ → StrokeSide → CapKind → CapKind → Bool → Edge → Edge → List Edge
path_ends unit radius side start end true first last = []
path_ends unit radius side start end false first last = open_ends unit radius side start end first last

-- the pieces there: those of the caps
abbrev pub open_pieces : ℕ → ℤ → StrokeSide → CapKind → CapKind → Edge → Edge → List (List Point)
open_pieces unit radius Both start end first last =
    cap_pieces unit radius start (back first) ++ cap_pieces unit radius end last
open_pieces unit radius Left start end first last = []
open_pieces unit radius Right start end first last = []

abbrev pub end_pieces : ℕ → ℤ → StrokeSide → CapKind → CapKind → Bool → Edge → Edge → List (List Point)
end_pieces unit radius side start end true first last = []
end_pieces unit radius side start end false first last = open_pieces unit radius side start end first last

-- what is drawn along the edges of a path
unfoldable pub drawn_edges : ℕ → StrokeStyle → Bool → List Edge → List Edge
drawn_edges unit style closed [] = []
drawn_edges unit style closed (e ∷ es) =
    proper_edges (
    flat_map (side_edges unit style.radius style.side) (e ∷ es)
    ++ (flat_map (corner_edges unit style.radius style.side style.join) (neighbours closed (e ∷ es))
    ++ path_ends unit style.radius style.side style.start style.end closed e (last_of e es))
    )

-- the pieces that are drawn along them
unfoldable pub drawn_pieces : ℕ → StrokeStyle → Bool → List Edge → List (List Point)
drawn_pieces unit style closed [] = []
drawn_pieces unit style closed (e ∷ es) =
    map (section_piece unit style.radius style.side) (e ∷ es)
    ++ (flat_map (corner_pieces unit style.radius style.side style.join) (neighbours closed (e ∷ es))
    ++ end_pieces unit style.radius style.side style.start style.end closed e (last_of e es))

-- the edges of the stroke of the path through these points: none for a radius of at most 1
abbrev pub stroke_edges : ℕ → StrokeStyle → Bool → List Point → List Edge
stroke_edges unit style closed points =
    if int_le style.radius (pos 1) then [] else drawn_edges unit style closed (path_edges closed points)

-- the pieces that the stroke is made of
abbrev pub stroke_pieces : ℕ → StrokeStyle → Bool → List Point → List (List Point)
stroke_pieces unit style closed points =
    if int_le style.radius (pos 1) then [] else drawn_pieces unit style closed (path_edges closed points)
