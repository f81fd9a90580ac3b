-- How edges that are drawn, and those that contours give to an outline, are added to segments.
use Rattle.std.specs.Prelude.{ℕ, ◌≡◌, ◌+◌, ◌++◌, ◌≤◌, List, map, length, take, drop, vec_capacity}
use Rattle.std.specs.declared.alloc.Global.{Global}
use Rattle.std.specs.declared.vec.Vec.{Vec}
use Rattle.mesh_plane.specs.Plane.{Edge, Point}
use Rattle.mesh_num.specs.Segments.{SignedEdge, edges_of, segments_of}
use Rattle.mesh_plane.specs.Winding.{boundary}
use Rattle.mesh_lattice.specs.Split.{back}
use Rattle.mesh_lattice.specs.declared.fill.FillRule.{FillRule}
use Rattle.mesh_lattice.specs.declared.fill.FillRule.TheVariants.{Positive, Negative}
use Rattle.std.specs.List.{flat_map}
use Rattle.mesh_num.specs.Paths.{contours_of}

-- edges as they are given to the outline: those of what is filled in the negative sense go the other way about
abbrev pub in_sense : FillRule → List Edge → List Edge
in_sense Positive es = es
in_sense Negative es = map back es

-- the vector `new` holds what `old` held, and then the segments of these edges, as they are given in this sense
abbrev pub AddsInSense : FillRule → List SignedEdge → List SignedEdge → List Edge → Type 0
AddsInSense fill old new edges = new ≡ old ++ segments_of (in_sense fill edges)

-- the vector `new` begins with what `old` held
abbrev pub Keeps : List SignedEdge → List SignedEdge → Type 0
Keeps old new = take (length old) new ≡ old

-- what `new` holds past what `old` held
abbrev pub added : List SignedEdge → List SignedEdge → List SignedEdge
added old new = drop (length old) new

-- the edges that those segments stand for
abbrev pub added_edges : List SignedEdge → List SignedEdge → List Edge
added_edges old new = edges_of (added old new)

-- the edges of an answer's contours
abbrev pub answer_edges : List (List (List Point)) → List Edge
answer_edges answer = flat_map boundary (contours_of answer)

-- the vector has room for so many more items
abbrev pub HasRoomFor : {X : Type 0} → Vec X Global → ℕ → Type 0
HasRoomFor v count = length v.items + count ≤ vec_capacity v
