-- Lines: edges, shapes and overlaps of zones, as data and as text of JSON.
use Rattle.std.specs.Prelude.{ℕ, List, [], ◌∷◌, ◌++◌, Bool, false, true, Option, Some, None, map, codes, decimal}
use Rattle.serde_json.specs.Data.{Data, null, number, unsigned, string, array, object, item, no_items, member, no_members}
use Rattle.serde_json.specs.Find.{of_integer}
use Rattle.serde_json.specs.View.{items_of}
use Rattle.serde_json.specs.Written.{compact_text}
use Rattle.mesh_plane.specs.Plane.{Point, Edge}
use Rattle.mesh_boolean.specs.Overlaps.{Overlap}
use Rattle.mesh_operands.specs.Combining.{Answered, as_shapes, as_overlap_list}
use Rattle.mesh_service.specs.declared.distances.Distances.{Distances}

-- a point: [x,y]
abbrev pub point_data : Point → Data
point_data p = array (item (number (of_integer p.0)) (item (number (of_integer p.1)) no_items))

-- an edge: where it starts, then where it ends
abbrev pub edge_data : Edge → Data
edge_data e = array (item (point_data e.0) (item (point_data e.1) no_items))

-- a list of values
abbrev pub list_data : {A : Type 0} → (A → Data) → List A → Data
list_data value xs = array (items_of (map value xs))

-- an object with one member
abbrev pub only_member : List ℕ → Data → Data
only_member key d = object (member key d no_members)

-- a value as a line
abbrev pub line_text : Data → List ℕ
line_text d = compact_text d ++ 10 ∷ []

-- the edges of each path: {"edges":[..]}
abbrev pub edges_data : List (List Edge) → Data
edges_data lists = only_member (codes "edges") (list_data (list_data edge_data) lists)

-- that as a line
abbrev pub edges_text : List (List Edge) → List ℕ
edges_text lists = line_text (edges_data lists)

-- shapes, each the list of its contours: {"shapes":[..]}
abbrev pub shapes_data : List (List (List Point)) → Data
shapes_data shapes = only_member (codes "shapes") (list_data (list_data (list_data point_data)) shapes)

-- that as a line
abbrev pub shapes_text : List (List (List Point)) → List ℕ
shapes_text shapes = line_text (shapes_data shapes)

-- the edges of each path, with a nearness: {"edges":[..],"nearness":..}
abbrev pub near_edges_data : ℕ → List (List Edge) → Data
near_edges_data nearness lists =
    object (member (codes "edges") (list_data (list_data edge_data) lists)
    (member (codes "nearness") (number (unsigned nearness)) no_members))

-- shapes, with their nearness: {"nearness":..,"shapes":[..]}
abbrev pub near_shapes_data : ℕ → List (List (List Point)) → Data
near_shapes_data nearness shapes =
    object (member (codes "nearness") (number (unsigned nearness))
    (member (codes "shapes") (list_data (list_data (list_data point_data)) shapes) no_members))

-- a line of edges, with their nearness where that is told: 0, as nothing is split for them
abbrev pub told_edges_text : Bool → List (List Edge) → List ℕ
told_edges_text false lists = edges_text lists
told_edges_text true lists = line_text (near_edges_data 0 lists)

-- a number, or null where there is none
abbrev pub number_or_null : Option ℕ → Data
number_or_null None = null
number_or_null (Some n) = number (unsigned n)

-- distances beside a list of shapes: {"clearance2":..,"reach2":..,"shapes":[..]}
abbrev pub measured_with : Distances → Data → Data
measured_with told list =
    object (member (codes "clearance2") (number_or_null told.clearance)
    (member (codes "reach2") (number_or_null told.reach) (member (codes "shapes") list no_members)))

-- the same with a nearness: {"clearance2":..,"nearness":..,"reach2":..,"shapes":[..]}
abbrev pub near_measured_with : ℕ → Distances → Data → Data
near_measured_with nearness told list =
    object (member (codes "clearance2") (number_or_null told.clearance)
    (member (codes "nearness") (number (unsigned nearness))
    (member (codes "reach2") (number_or_null told.reach) (member (codes "shapes") list no_members))))

-- shapes, with their distances
abbrev pub measured_shapes_data : Distances → List (List (List Point)) → Data
measured_shapes_data told shapes = measured_with told (list_data (list_data (list_data point_data)) shapes)

-- the same with their nearness
abbrev pub near_measured_shapes_data : ℕ → Distances → List (List (List Point)) → Data
near_measured_shapes_data nearness told shapes =
    near_measured_with nearness told (list_data (list_data (list_data point_data)) shapes)

-- a number, where it is told
abbrev pub where_told : Bool → ℕ → Option ℕ
where_told false n = None
where_told true n = Some n

-- a line of shapes, with their nearness and with their distances, where these are told
abbrev pub told_shapes_text : Option ℕ → Option Distances → List (List (List Point)) → List ℕ
told_shapes_text None None shapes = shapes_text shapes
told_shapes_text (Some nearness) None shapes = line_text (near_shapes_data nearness shapes)
told_shapes_text None (Some told) shapes = line_text (measured_shapes_data told shapes)
told_shapes_text (Some nearness) (Some told) shapes = line_text (near_measured_shapes_data nearness told shapes)

-- the places of two zones and what both have, as a list
abbrev pub overlap_with : ℕ → ℕ → Data → Data
overlap_with first second shapes =
    array (item (number (unsigned first)) (item (number (unsigned second)) (item shapes no_items)))

-- two zones that overlap, and where: [i,j,[..]]
abbrev pub overlap_data : Overlap → Data
overlap_data o = overlap_with o.0 o.1.0 (list_data (list_data (list_data point_data)) o.1.1)

-- overlaps of zones: {"overlaps":[..]}
abbrev pub overlaps_data : List Overlap → Data
overlaps_data found = only_member (codes "overlaps") (list_data overlap_data found)

-- that as a line
abbrev pub overlaps_text : List Overlap → List ℕ
overlaps_text found = line_text (overlaps_data found)

-- overlaps of zones, with their nearness: {"nearness":..,"overlaps":[..]}
abbrev pub near_overlaps_data : ℕ → List Overlap → Data
near_overlaps_data nearness found =
    object (member (codes "nearness") (number (unsigned nearness))
    (member (codes "overlaps") (list_data overlap_data found) no_members))

-- what is made of operands, as a line: shapes, or overlaps of zones
abbrev pub combined_text : Answered → List ℕ
combined_text (as_shapes shapes) = shapes_text shapes
combined_text (as_overlap_list found) = overlaps_text found

-- the same with its nearness
abbrev pub near_combined_text : ℕ → Answered → List ℕ
near_combined_text nearness (as_shapes shapes) = line_text (near_shapes_data nearness shapes)
near_combined_text nearness (as_overlap_list found) = line_text (near_overlaps_data nearness found)

-- a line of what is made of operands, with its nearness where that is told
abbrev pub told_combined_text : Bool → ℕ → Answered → List ℕ
told_combined_text false nearness answer = combined_text answer
told_combined_text true nearness answer = near_combined_text nearness answer

-- that a text holds no request, and why: {"unreadable":"request","why":..}
abbrev pub why_data : List ℕ → Data
why_data told =
    object (member (codes "unreadable") (string (codes "request")) (member (codes "why") (string told) no_members))

-- that as a line
abbrev pub why_text : List ℕ → List ℕ
why_text told = line_text (why_data told)

-- the line that tells that an answer took more splits than these
abbrev pub too_many_text : ℕ → List ℕ
too_many_text most = codes "{\"refused\":\"splitting took more than " ++ (decimal most ++ codes " splits\"}\n")
