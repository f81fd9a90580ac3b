-- Appending edges to a vector of segments.
use Rattle.std.specs.Prelude.{◌≡◌, ◌+◌, ◌≤◌, ◌++◌, List, length, vec_capacity}
use Rattle.std.specs.declared.alloc.Global.{Global}
use Rattle.std.specs.declared.vec.Vec.{Vec}
use Rattle.mesh_plane.specs.Plane.{Edge}
use Rattle.mesh_num.specs.Segments.{SignedEdge, segments_of}

-- the vector holds what it held, and then the segments of the edges
abbrev pub Appends : Vec SignedEdge Global → Vec SignedEdge Global → List Edge → Type 0
Appends old new es = new.items ≡ old.items ++ segments_of es

-- the vector has room for the segments of the edges
abbrev pub HasRoomForEdges : {X : Type 0} → Vec X Global → List Edge → Type 0
HasRoomForEdges v es = length v.items + length (segments_of es) ≤ vec_capacity v
