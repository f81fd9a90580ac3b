-- Edges in another order.
use Rattle.std.specs.Prelude.{ℕ, List, map}
use Rattle.mesh_plane.specs.Plane.{Edge}

-- the edges of a list in which each stands with a place
abbrev pub unplaced : List (ℕ × Edge) → List Edge
unplaced ks = map (λ k. k.1) ks
