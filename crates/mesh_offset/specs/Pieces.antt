-- Edges as the boundaries of pieces.
use Rattle.std.specs.Prelude.{ℕ, ◌≡◌, List}
use Rattle.mesh_plane.specs.Plane.{Point, Edge}
use Rattle.mesh_plane.specs.Winding.{winding, crossing_on, pieces_total}

-- at each point of each grid the edges wind as often as the pieces together
abbrev pub WindAsPieces : List (List Point) → List Edge → Type 0
WindAsPieces pieces es = (m : ℕ) (q : Point) → winding m q es ≡ pieces_total (crossing_on m q) pieces
