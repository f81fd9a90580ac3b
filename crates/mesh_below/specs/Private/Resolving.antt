-- What comes of edges that were split.
use Rattle.std.specs.Prelude.{◌≡◌, Bool, List, ℤ}
use Rattle.mesh_plane.specs.Plane.{Point, Edge}
use Rattle.mesh_lattice.specs.Split.{EdgeSplit}
use Rattle.mesh_shapes.specs.Resolution.{Choices, IsResolution}

-- an answer is a resolution of edges by just these splits
abbrev pub ResolvesBy : List EdgeSplit → List Edge → (ℤ → Bool) → Choices → List (List (List Point)) → Type 0
ResolvesBy splits edges fill options answer = (r : IsResolution edges fill options answer) × (r.splits ≡ splits)
