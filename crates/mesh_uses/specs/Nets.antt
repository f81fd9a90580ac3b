-- Nets in a list.
use Rattle.std.specs.Prelude.{ℕ, List, [], get_or, map}
use Rattle.std.specs.declared.alloc.Global.{Global}
use Rattle.std.specs.declared.vec.Vec.{Vec}
use Rattle.mesh_num.specs.Paths.{shapes_of}
use Rattle.mesh_plane.specs.Plane.{Point, Edge}
use Rattle.mesh_nets.specs.Nets.{edges_of}

-- the edges of the net at a place
abbrev pub edges_at : List (Vec (Vec (Vec Point Global) Global) Global) → ℕ → List Edge
edges_at nets i = edges_of (get_or (map (λ net. shapes_of net.items) nets) i [])
