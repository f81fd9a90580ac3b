-- Strokes of variable width: how the chains of a path are drawn, and the pieces that they are made of.
use Rattle.std.specs.Prelude.{ℕ, Bool, true, false, ◌||◌, not, if◌then◌else◌, List, [], ◌∷◌, ◌++◌, map, ℤ, pos, int_lt}
use Rattle.std.specs.List.{flat_map}
use Rattle.std.specs.Option.{option_to_list}
use Rattle.mesh_plane.specs.Plane.{Point, Edge, minus, cross}
use Rattle.mesh_plane.specs.Winding.{route, same_point}
use Rattle.mesh_plane.specs.Turning.{last_of}
use Rattle.mesh_num.specs.Segments.{proper_edges}
use Rattle.mesh_arc.specs.declared.arc.ArcOptions.{ArcOptions}
use Rattle.mesh_join.specs.VariableStyles.{Vertex}
use Rattle.mesh_offset.specs.Walks.{pairs}
use Rattle.mesh_circle.specs.Sections.{Circle, Section}
use Rattle.mesh_circle.specs.declared.sweep.Sweep.{Sweep}
use Rattle.mesh_circle.specs.declared.sweep.Sweep.TheVariants.{Minor, Major}
use Rattle.mesh_circle.specs.Sweeps.{arc_edges, arc_pieces, circle_edges, circle_pieces}
use Rattle.mesh_variable_stroke.specs.Chains.{circles_of, chains_of, Chain, Step}
use Rattle.mesh_variable_stroke.specs.declared.chain_end.ChainEnd.{ChainEnd}
use Rattle.mesh_variable_stroke.specs.declared.chain_end.ChainEnd.TheVariants.{Butt, Round}

-- ---- sections

-- a section is drawn along its tangents: on the left back, on the right as it runs
abbrev pub side_edges : Section → List Edge
side_edges s = (s.b_left, s.a_left) ∷ (s.a_right, s.b_right) ∷ []

-- the piece between both tangents
abbrev pub section_piece : Section → List Point
section_piece s = s.a_right ∷ s.b_right ∷ s.b_left ∷ s.a_left ∷ []

-- ---- ends

-- points on one ray are a whole turn apart at the greater circle of a section
abbrev pub sweep_at : Circle → Circle → Sweep
sweep_at own other = if int_lt other.radius own.radius then Major else Minor

-- the end of a chain at the start of its first section
abbrev pub start_edges : ℕ → ArcOptions → ChainEnd → Section → List Edge
start_edges unit options Butt s = route s.a_left [] s.a_right
start_edges unit options Round s = arc_edges unit options s.a.center s.a_left s.a_right (sweep_at s.a s.b)

abbrev pub start_pieces : ℕ → ArcOptions → ChainEnd → Section → List (List Point)
start_pieces unit options Butt s = []
start_pieces unit options Round s = arc_pieces unit options s.a.center s.a_left s.a_right (sweep_at s.a s.b)

-- the end of a chain at the end of its last section
abbrev pub end_edges : ℕ → ArcOptions → ChainEnd → Section → List Edge
end_edges unit options Butt s = route s.b_right [] s.b_left
end_edges unit options Round s = arc_edges unit options s.b.center s.b_right s.b_left (sweep_at s.b s.a)

abbrev pub end_pieces : ℕ → ArcOptions → ChainEnd → Section → List (List Point)
end_pieces unit options Butt s = []
end_pieces unit options Round s = arc_pieces unit options s.b.center s.b_right s.b_left (sweep_at s.b s.a)

-- ---- joints

-- two neighbouring sections of a chain
abbrev pub SectionPair : Type 0
SectionPair = Section × Section

-- they do not meet, since the sections between were left out
abbrev pub is_apart : SectionPair → Bool
is_apart j = not (same_point j.0.b.center j.1.a.center)

-- how the path turns at a joint, and how its tangents do, on the left back along the path
abbrev pub middle_turn : SectionPair → ℤ
middle_turn j = cross (minus j.0.b.center j.0.a.center) (minus j.1.b.center j.1.a.center)

abbrev pub left_turn : SectionPair → ℤ
left_turn j = cross (minus j.1.b_left j.1.a_left) (minus j.0.b_left j.0.a_left)

abbrev pub right_turn : SectionPair → ℤ
right_turn j = cross (minus j.0.b_right j.0.a_right) (minus j.1.b_right j.1.a_right)

-- there is an arc on the left where the left tangents or the path turn to the right
abbrev pub has_left_arc : SectionPair → Bool
has_left_arc j = int_lt (pos 0) (left_turn j) || int_lt (middle_turn j) (pos 0)

-- and one on the right where the right tangents turn to the left, or the path does not turn to the right
abbrev pub has_right_arc : SectionPair → Bool
has_right_arc j = int_lt (pos 0) (right_turn j) || not (int_lt (middle_turn j) (pos 0))

-- the edges on the left of a joint, back along the path, and those on its right
abbrev pub left_edges : ℕ → ArcOptions → SectionPair → List Edge
left_edges unit options j =
    if has_left_arc j then arc_edges unit options j.0.b.center j.1.a_left j.0.b_left Minor
    else route j.1.a_left [] j.0.b_left

abbrev pub right_edges : ℕ → ArcOptions → SectionPair → List Edge
right_edges unit options j =
    if has_right_arc j then arc_edges unit options j.0.b.center j.0.b_right j.1.a_right Major
    else route j.0.b_right [] j.1.a_right

-- the edges of a joint; sections that do not meet end straight
abbrev pub joint_edges : ℕ → ArcOptions → SectionPair → List Edge
joint_edges unit options j =
    if is_apart j then end_edges unit options Butt j.0 ++ start_edges unit options Butt j.1
    else left_edges unit options j ++ right_edges unit options j

-- the pieces of both arcs
abbrev pub left_pieces : ℕ → ArcOptions → SectionPair → List (List Point)
left_pieces unit options j =
    if has_left_arc j then arc_pieces unit options j.0.b.center j.1.a_left j.0.b_left Minor else []

abbrev pub right_pieces : ℕ → ArcOptions → SectionPair → List (List Point)
right_pieces unit options j =
    if has_right_arc j then arc_pieces unit options j.0.b.center j.0.b_right j.1.a_right Major else []

-- the piece between two sections that meet, from the tangents of one to those of the other
abbrev pub joint_piece : SectionPair → List Point
joint_piece j = j.1.a_left ∷ j.0.b_left ∷ j.0.b_right ∷ j.1.a_right ∷ []

-- the pieces of a joint; there are none where the sections do not meet
abbrev pub joint_pieces : ℕ → ArcOptions → SectionPair → List (List Point)
joint_pieces unit options j =
    if is_apart j then [] else joint_piece j ∷ (left_pieces unit options j ++ right_pieces unit options j)

-- ---- chains

-- the sections of a chain: steps without one are left out
abbrev pub sections_of : List Step → List Section
sections_of steps = flat_map (λ (s : Step). option_to_list s.section) steps

-- whether two ends are butt
abbrev pub are_butt : ChainEnd → ChainEnd → Bool
are_butt Butt Butt = true
are_butt Butt Round = false
are_butt Round end = false

-- a vertex alone is its circle, unless both ends are butt
abbrev pub vertex_edges : ℕ → ArcOptions → Chain → List Edge
vertex_edges unit options chain =
    if are_butt chain.start_end chain.end then []
    else circle_edges unit options chain.start.center chain.start.radius

abbrev pub vertex_pieces : ℕ → ArcOptions → Chain → List (List Point)
vertex_pieces unit options chain =
    if are_butt chain.start_end chain.end then []
    else circle_pieces unit options chain.start.center chain.start.radius

-- a chain without sections draws its vertex, where it has no steps either
abbrev pub bare_edges : ℕ → ArcOptions → Chain → List Step → List Edge
bare_edges unit options chain [] = vertex_edges unit options chain
bare_edges unit options chain (s ∷ ss) = []

abbrev pub bare_pieces : ℕ → ArcOptions → Chain → List Step → List (List Point)
bare_pieces unit options chain [] = vertex_pieces unit options chain
bare_pieces unit options chain (s ∷ ss) = []

-- the edges of a chain with these sections: along each section, at each joint and at both ends
abbrev pub edges_with : ℕ → ArcOptions → Chain → List Section → List Edge
edges_with unit options chain [] = bare_edges unit options chain chain.steps
edges_with unit options chain (s ∷ ss) =
    flat_map side_edges (s ∷ ss)
    ++ (flat_map (joint_edges unit options) (pairs (s ∷ ss))
    ++ (start_edges unit options chain.start_end s ++ end_edges unit options chain.end (last_of s ss)))

abbrev pub pieces_with : ℕ → ArcOptions → Chain → List Section → List (List Point)
pieces_with unit options chain [] = bare_pieces unit options chain chain.steps
pieces_with unit options chain (s ∷ ss) =
    map section_piece (s ∷ ss)
    ++ (flat_map (joint_pieces unit options) (pairs (s ∷ ss))
    ++ (start_pieces unit options chain.start_end s ++ end_pieces unit options chain.end (last_of s ss)))

abbrev pub chain_edges : ℕ → ArcOptions → Chain → List Edge
chain_edges unit options chain = edges_with unit options chain (sections_of chain.steps)

abbrev pub chain_pieces : ℕ → ArcOptions → Chain → List (List Point)
chain_pieces unit options chain = pieces_with unit options chain (sections_of chain.steps)

-- ---- paths

-- the edges of the stroke of a path of vertices, and the pieces that it is made of
unfoldable pub variable_stroke_edges : ℕ → ArcOptions → List Vertex → List Edge
variable_stroke_edges unit options vertices =
    proper_edges (flat_map (chain_edges unit options) (chains_of unit (circles_of vertices)))

unfoldable pub variable_stroke_pieces : ℕ → ArcOptions → List Vertex → List (List Point)
variable_stroke_pieces unit options vertices =
    flat_map (chain_pieces unit options) (chains_of unit (circles_of vertices))
