-- What cutting in line makes of edges.
use Rattle.std.specs.Prelude.{ℕ, ◌≡◌, ◌⊎◌, List, length}
use Rattle.std.specs.List.{All}
use Rattle.mesh_plane.specs.Plane.{Edge}
use Rattle.mesh_lattice.specs.Split.{after, EdgeSplit, IsLegal}

-- an upright or a level edge
abbrev pub IsStraight : Edge → Type 0
IsStraight e = (e.0.0 ≡ e.1.0) ⊎ (e.0.1 ≡ e.1.1)

-- edges are what so many legal splits make of given ones, and each of these splits an upright or a level segment, which it
-- does not bend
pub record AreCutInLine (given edges : List Edge) (many : ℕ) : Type 0 where
  pub splits : List EdgeSplit
  pub legal : IsLegal given splits
  pub made : edges ≡ after splits given
  pub count : length splits ≡ many
  pub straight : All (λ (s : EdgeSplit). IsStraight s.ends) splits
