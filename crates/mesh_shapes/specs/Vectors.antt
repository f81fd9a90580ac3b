-- Rings, contours, shapes and ordered edges, as the vectors that hold them.
use Rattle.std.specs.Prelude.{ℕ, ◌≡◌, ◌<◌, ◌≤◌, false, List, map, length, slice_index_or, Vec}
use Rattle.std.specs.List.{All, flat_map}
use Rattle.std.specs.declared.alloc.Global.{Global}
use Rattle.mesh_plane.specs.Plane.{Point, Edge}
use Rattle.mesh_plane.specs.Order.{point_lt}
use Rattle.mesh_plane.specs.Winding.{boundary}
use Rattle.mesh_shapes.specs.Resolution.{Ring}

-- a ring's vertices in a vector, and its side point
abbrev pub RingVec : Type 0
RingVec = Vec Point Global × Point

-- the ring in a vector
abbrev pub ring_of_vec : RingVec → Ring
ring_of_vec r = (r.0.items, r.1)

-- the rings in vectors
abbrev pub rings_of_vecs : List RingVec → List Ring
rings_of_vecs rs = map ring_of_vec rs

-- the points of the contours of a shape
abbrev pub shape_points : List (Vec Point Global) → List (List Point)
shape_points shape = map (λ (c : Vec Point Global). c.items) shape

-- the points of the contours of each shape
abbrev pub shapes_points : List (Vec (Vec Point Global) Global) → List (List (List Point))
shapes_points shapes = map (λ (s : Vec (Vec Point Global) Global). shape_points s.items) shapes

-- the edges of contours
abbrev pub contour_edges : List (Vec Point Global) → List Edge
contour_edges cs = flat_map (λ (c : Vec Point Global). boundary c.items) cs

-- each contour has a point
abbrev pub HavePoints : List (Vec Point Global) → Type 0
HavePoints cs = All (λ (c : Vec Point Global). 0 < length c.items) cs

-- no edge starts at a lesser point than one before it
abbrev pub StartsInOrder : List Edge → Type 0
StartsInOrder es =
    (i j : ℕ) (d : Edge) → i ≤ j → j < length es → point_lt (slice_index_or es j d).0 (slice_index_or es i d).0 ≡ false
