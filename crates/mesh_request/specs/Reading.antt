-- What a request says, as data of JSON. Coordinates are of a type with `unit`, which holds the whole numbers from
-- `-2 * unit` on that are below `2 * unit`; areas are of one that holds those without sign below `16 * unit * unit`.
use Rattle.std.specs.Prelude.{ℕ, ◌^◌, Bool, false, if◌then◌else◌, ℤ, nat_eq, nat_lt, suc, List, [], ◌∷◌, codes}
use Rattle.std.specs.Prelude.{Option, Some, None, is_some, option_map, option_and_then}
use Rattle.std.specs.Str.{bytes_eq}
use Rattle.serde_json.specs.Data.{Data, Items, no_items, item, Members, no_members, member}
use Rattle.serde_json.specs.Find.{get, as_number, as_i64, as_u64, as_bool, as_str, as_array, as_object}
use Rattle.mesh_plane.specs.Plane.{Point}
use Rattle.mesh_below.specs.Options.{plain}
use Rattle.mesh_shapes.specs.Resolution.{Choices}
use Rattle.mesh_offset.specs.declared.error.IntOutlineError.TheVariants.{CoordinateOutOfRange, OutOfMemory}
use Rattle.mesh_arc.specs.declared.arc.ArcOptions.{ArcOptions}
use Rattle.mesh_join.specs.Styles.{JoinStyle, OutlineStyle}
use Rattle.mesh_join.specs.VariableStyles.{Vertex, default_variable_style}
use Rattle.mesh_join.specs.declared.style.IntLineJoin.{IntLineJoin}
use Rattle.mesh_join.specs.declared.style.IntLineJoin.TheVariants.{Bevel, Miter, Round}
use Rattle.mesh_join.specs.declared.style.StrokeSide.{StrokeSide}
use Rattle.mesh_join.specs.declared.style.StrokeSide.TheVariants.{Both, Left, Right}
use Rattle.mesh_stroke.specs.Caps.{CapKind}
use Rattle.mesh_stroke.specs.Styles.{StrokeStyle}
use Rattle.mesh_drawing.specs.Drawn.{Drawn, as_outline, as_stroke, as_variable_stroke}
use Rattle.mesh_request.specs.Requests.{Asked, for_edges, for_shapes}
use Rattle.mesh_request.specs.Requests.{Request}
use Rattle.mesh_drawing.specs.Parts.{both, where_fits, where_area_fits, outline_style_with, uncapped_with}
use Rattle.mesh_drawing.specs.Parts.{stroke_style_with, choices_with}
use Rattle.mesh_request.specs.declared.failure.Failure.{Failure}
use Rattle.mesh_request.specs.declared.failure.Failure.TheVariants.{Unreadable, Refused}

-- the whole number of 64 bits that a value is
abbrev pub whole_number : Data → Option ℤ
whole_number d = option_and_then as_i64 (as_number d)

-- the coordinate that a value is
abbrev pub coordinate_of : ℕ → Data → Option ℤ
coordinate_of unit d = option_and_then (where_fits unit) (whole_number d)

-- two coordinates
abbrev pub pair_of : ℕ → Items → Option Point
pair_of unit no_items = None
pair_of unit (item x no_items) = None
pair_of unit (item x (item y no_items)) = both (coordinate_of unit x) (coordinate_of unit y)
pair_of unit (item x (item y (item z more))) = None

-- the point that a value is: [x,y]
abbrev pub point_of : ℕ → Data → Option Point
point_of unit d = option_and_then (pair_of unit) (as_array d)

-- the points that values are
abbrev pub point_list_of : ℕ → Items → Option (List Point)
point_list_of unit no_items = Some []
point_list_of unit (item d ds) =
    option_and_then (λ p. option_map (λ ps. p ∷ ps) (point_list_of unit ds)) (point_of unit d)

-- the path that a value is: a list of points
abbrev pub path_of : ℕ → Data → Option (List Point)
path_of unit d = option_and_then (point_list_of unit) (as_array d)

-- the paths that values are
abbrev pub path_list_of : ℕ → Items → Option (List (List Point))
path_list_of unit no_items = Some []
path_list_of unit (item d ds) = option_and_then (λ p. option_map (λ ps. p ∷ ps) (path_list_of unit ds)) (path_of unit d)

-- the paths of a request
abbrev pub paths_in : ℕ → Data → Option (List (List Point))
paths_in unit d = option_and_then (path_list_of unit) (option_and_then as_array (get (codes "paths") d))

-- two coordinates and a width, as a vertex
abbrev pub vertex_with : ℤ × (ℤ × ℤ) → Vertex
vertex_with said = record { point = (said.0, said.1.0); width = said.1.1 }

-- two coordinates and a width
abbrev pub triple_of : ℕ → Items → Option Vertex
triple_of unit no_items = None
triple_of unit (item x no_items) = None
triple_of unit (item x (item y no_items)) = None
triple_of unit (item x (item y (item w no_items))) =
    option_map vertex_with (both (coordinate_of unit x) (both (coordinate_of unit y) (coordinate_of unit w)))
triple_of unit (item x (item y (item w (item z more)))) = None

-- the vertex that a value is: [x,y,width]
abbrev pub vertex_of : ℕ → Data → Option Vertex
vertex_of unit d = option_and_then (triple_of unit) (as_array d)

-- the vertices that values are
abbrev pub vertices_of : ℕ → Items → Option (List Vertex)
vertices_of unit no_items = Some []
vertices_of unit (item d ds) = option_and_then (λ v. option_map (λ vs. v ∷ vs) (vertices_of unit ds)) (vertex_of unit d)

-- the path of vertices that a value is: a list of them
abbrev pub vertex_path_of : ℕ → Data → Option (List Vertex)
vertex_path_of unit d = option_and_then (vertices_of unit) (as_array d)

-- the paths of vertices that values are
abbrev pub vertex_path_list_of : ℕ → Items → Option (List (List Vertex))
vertex_path_list_of unit no_items = Some []
vertex_path_list_of unit (item d ds) =
    option_and_then (λ p. option_map (λ ps. p ∷ ps) (vertex_path_list_of unit ds)) (vertex_path_of unit d)

-- the paths of a request whose width changes from vertex to vertex
abbrev pub vertex_paths_in : ℕ → Data → Option (List (List Vertex))
vertex_paths_in unit d = option_and_then (vertex_path_list_of unit) (option_and_then as_array (get (codes "paths") d))

-- whether a value is a text
abbrev pub is_word : List ℕ → Option (List ℕ) → Bool
is_word word None = false
is_word word (Some text) = bytes_eq text word

-- whether a member is a text
abbrev pub says : List ℕ → List ℕ → Data → Bool
says key word d = is_word word (option_and_then as_str (get key d))

-- whether there is a member
abbrev pub has_key : List ℕ → Data → Bool
has_key key d = is_some (get key d)

-- the whole number of 32 bits without sign that a value is
abbrev pub small_number_of : Data → Option ℕ
small_number_of d =
    option_and_then (λ n. if nat_lt n (2 ^ 32) then Some n else None) (option_and_then as_u64 (as_number d))

-- the angle of as many bits as a value says
abbrev pub angle_of : Data → Option ℕ
angle_of d = small_number_of d

-- the options of an arc: the bits of its greatest step, and its precision
abbrev pub options_with : ℕ × ℕ → ArcOptions
options_with said = record { max_step = said.0; rotation_precision = said.1 }

abbrev pub options_in : Items → Option ArcOptions
options_in no_items = None
options_in (item s no_items) = None
options_in (item s (item p no_items)) = option_map options_with (both (angle_of s) (small_number_of p))
options_in (item s (item p (item z more))) = None

-- the options of an arc that a value gives: [bits,precision]
abbrev pub arc_options_of : Data → Option ArcOptions
arc_options_of d = option_and_then options_in (as_array d)

-- how many members an object has
abbrev pub member_count : Members → ℕ
member_count no_members = 0
member_count (member k d ms) = suc (member_count ms)

-- whether a value is an object with one member
abbrev pub has_one_member : Option Members → Bool
has_one_member None = false
has_one_member (Some ms) = nat_eq (member_count ms) 1

-- what an object holds under a key, where it has no other
abbrev pub sole_in : List ℕ → Data → Option Data
sole_in key d = if has_one_member (as_object d) then get key d else None

-- the options of arcs that an object gives: {"round":[bits,precision]}
abbrev pub round_options_of : Data → Option ArcOptions
round_options_of d = option_and_then arc_options_of (sole_in (codes "round") d)

-- the kind of join that a value names: "bevel", {"miter":bits} or {"round":[bits,precision]}, a bevel where there is
-- none
abbrev pub join_of : Option Data → Option IntLineJoin
join_of None = Some Bevel
join_of (Some d) =
    if is_word (codes "bevel") (as_str d) then Some Bevel
    else if has_key (codes "miter") d then option_map Miter (option_and_then angle_of (sole_in (codes "miter") d))
    else option_map Round (round_options_of d)

-- what is needed of a value that names no join
abbrev pub no_join_text : List ℕ
no_join_text = codes "\"bevel\", {\"miter\": BITS} or {\"round\": [BITS, PRECISION]} is needed"

-- the turn below which a miter is a bevel, the default one where there is none: 5 degrees, cut
abbrev pub min_turn_of : Option Data → Option ℕ
min_turn_of None = Some 59652323
min_turn_of (Some d) = angle_of d

-- the offset or the width that a style gives under a key
abbrev pub length_of : ℕ → List ℕ → Data → Option ℤ
length_of unit key d = option_and_then (coordinate_of unit) (get key d)

-- the style of outlines that an object gives
abbrev pub outline_style_in : ℕ → Data → Option OutlineStyle
outline_style_in unit d =
    option_map outline_style_with
    (both (join_of (get (codes "join") d))
    (both (min_turn_of (get (codes "min_turn") d))
    (both (length_of unit (codes "outer") d) (length_of unit (codes "inner") d))))

-- the custom cap that an object gives: {"custom":[[x,y],..]}
abbrev pub custom_cap_of : ℕ → Data → Option CapKind
custom_cap_of unit d = option_map CapKind.Custom (option_and_then (path_of unit) (sole_in (codes "custom") d))

-- the kind of cap that a value names: "butt", "square", {"round":[bits,precision]} or {"custom":[[x,y],..]}, a butt
-- where there is none
abbrev pub cap_of : ℕ → Option Data → Option CapKind
cap_of unit None = Some CapKind.Butt
cap_of unit (Some d) =
    if is_word (codes "butt") (as_str d) then Some CapKind.Butt
    else if is_word (codes "square") (as_str d) then Some CapKind.Square
    else if has_key (codes "round") d then option_map CapKind.Round (round_options_of d)
    else custom_cap_of unit d

-- what is needed of a value that names no cap
abbrev pub no_cap_text : List ℕ
no_cap_text = codes "\"butt\", \"square\", {\"round\": [BITS, PRECISION]} or {\"custom\": [[X, Y], ..]} is needed"

-- the side of a path that a value names: "both", "left" or "right", both where there is none
abbrev pub side_of : Option Data → Option StrokeSide
side_of None = Some Both
side_of (Some d) =
    if is_word (codes "both") (as_str d) then Some Both
    else if is_word (codes "left") (as_str d) then Some Left
    else if is_word (codes "right") (as_str d) then Some Right
    else None

-- the width, the side and the joins of the strokes that an object gives
abbrev pub uncapped_in : ℕ → Data → Option (ℤ × (StrokeSide × JoinStyle))
uncapped_in unit d =
    option_map uncapped_with
    (both (join_of (get (codes "join") d))
    (both (min_turn_of (get (codes "min_turn") d))
    (both (side_of (get (codes "side") d)) (length_of unit (codes "width") d))))

-- the style of strokes that an object gives
abbrev pub stroke_style_in : ℕ → Data → Option StrokeStyle
stroke_style_in unit d =
    option_map stroke_style_with
    (both (uncapped_in unit d) (both (cap_of unit (get (codes "start") d)) (cap_of unit (get (codes "end") d))))

-- the options of the arcs of variable strokes that a value gives, the default ones where there is none
abbrev pub arc_given : Option Data → Option ArcOptions
arc_given None = Some default_variable_style.arc
arc_given (Some d) = arc_options_of d

-- the options of arcs in a style of variable strokes, which is an object
abbrev pub arc_in : Data → Option ArcOptions
arc_in d = if is_some (as_object d) then arc_given (get (codes "arc") d) else None

-- the area that a value is, 0 where there is none
abbrev pub area_of : ℕ → Option Data → Option ℕ
area_of unit None = Some 0
area_of unit (Some d) = option_and_then (where_area_fits unit) (option_and_then as_u64 (as_number d))

-- what a value says, false where there is none
abbrev pub flag_of : Option Data → Option Bool
flag_of None = Some false
flag_of (Some d) = as_bool d

-- the choices that an object gives
abbrev pub choices_in : ℕ → Data → Option Choices
choices_in unit d =
    option_map choices_with
    (both (area_of unit (get (codes "min_area") d))
    (both (flag_of (get (codes "clockwise") d)) (flag_of (get (codes "collinear") d))))

-- the choices that options give: the default ones where there are none; what is no object gives none
abbrev pub choices_given : ℕ → Option Data → Option Choices
choices_given unit None = Some plain
choices_given unit (Some d) = if is_some (as_object d) then choices_in unit d else None

-- what a request asks; options are looked at for shapes alone
abbrev pub asked_in : ℕ → Data → Option Asked
asked_in unit d =
    if says (codes "out") (codes "edges") d then Some for_edges
    else (if says (codes "out") (codes "shapes") d
    then option_map for_shapes (choices_given unit (get (codes "options") d)) else None)

-- whether options ask for distances: they do not where there are none
abbrev pub distances_given : Option Data → Option Bool
distances_given None = Some false
distances_given (Some d) = flag_of (get (codes "distances") d)

-- whether a request asks for distances; options are looked at for shapes alone
abbrev pub distances_in : Data → Option Bool
distances_in d =
    if says (codes "out") (codes "edges") d then Some false else distances_given (get (codes "options") d)

-- a style and paths, as an outline
abbrev pub outline_with : OutlineStyle × List (List Point) → Drawn
outline_with said = as_outline said.0 said.1

-- the outline that is asked for, with coordinates of a type with `unit`
abbrev pub outline_of : ℕ → Data → Option Drawn
outline_of unit d =
    option_map outline_with
    (both (option_and_then (outline_style_in unit) (get (codes "style") d)) (paths_in unit d))

-- whether paths are closed, a style and paths, as a stroke
abbrev pub stroke_with : Bool × (StrokeStyle × List (List Point)) → Drawn
stroke_with said = as_stroke said.1.0 said.0 said.1.1

-- the stroke that is asked for, with coordinates of a type with `unit`
abbrev pub stroke_of : ℕ → Data → Option Drawn
stroke_of unit d =
    option_map stroke_with
    (both (flag_of (get (codes "closed") d))
    (both (option_and_then (stroke_style_in unit) (get (codes "style") d)) (paths_in unit d)))

-- options of arcs and paths of vertices, as a stroke of variable width
abbrev pub variable_stroke_with : ArcOptions × List (List Vertex) → Drawn
variable_stroke_with said = as_variable_stroke said.0 said.1

-- the stroke of variable width that is asked for, with coordinates of a type with `unit`
abbrev pub variable_stroke_of : ℕ → Data → Option Drawn
variable_stroke_of unit d =
    option_map variable_stroke_with (both (option_and_then arc_in (get (codes "style") d)) (vertex_paths_in unit d))

-- what is drawn, with coordinates of a type with `unit`
abbrev pub drawn_in : ℕ → Data → Option Drawn
drawn_in unit d =
    if says (codes "op") (codes "outline") d then outline_of unit d
    else if says (codes "op") (codes "stroke") d then stroke_of unit d
    else if says (codes "op") (codes "variable_stroke") d then variable_stroke_of unit d
    else None

-- what is drawn, what is asked of it and whether distances are told, as a request
abbrev pub request_with : ℕ → Drawn × (Asked × Bool) → Request
request_with unit said = record { unit = unit; drawn = said.0; asked = said.1.0; distances = said.1.1 }

-- the request with coordinates of a type with `unit`
abbrev pub request_as : ℕ → Data → Option Request
request_as unit d =
    option_map (request_with unit) (both (drawn_in unit d) (both (asked_in unit d) (distances_in d)))

-- the unit of the type that a request names
abbrev pub unit_of : Data → Option ℕ
unit_of d =
    if says (codes "int") (codes "i16") d then Some (2 ^ 14)
    else (if says (codes "int") (codes "i32") d then Some (2 ^ 30) else None)

-- the request that is served
abbrev pub request_of : Data → Option Request
request_of d = option_and_then (λ unit. request_as unit d) (unit_of d)

-- a failure to read: no contour is refused
abbrev pub IsOfReading : Failure → Type 0
IsOfReading Unreadable = Unit {0}
IsOfReading (Refused CoordinateOutOfRange) = ⊥
IsOfReading (Refused OutOfMemory) = Unit {0}
