-- Where edges meet: in whole points alone.
use Rattle.std.specs.Prelude.{ℕ, ◌<◌, ◌≡◌, true, List, pos}
use Rattle.mesh_plane.specs.Plane.{Point, Edge, turn}
use Rattle.mesh_plane.specs.Winding.{refined}
use Rattle.mesh_lattice.specs.Clean.{IsOn, refined_edge}
use Rattle.mesh_lattice.specs.Split.{occurs}

-- both ends of the second edge lie on the line of the first
abbrev pub AreOnOneLine : Edge → Edge → Type 0
AreOnOneLine e f = (turn e.0 e.1 f.0 ≡ pos 0) × (turn e.0 e.1 f.1 ≡ pos 0)

-- a point of the grid `m` that stands for a whole one
abbrev pub IsWhole : ℕ → Point → Type 0
IsWhole m z = (p : Point) × (z ≡ refined m p)

-- any two of the edges that do not lie on one line meet in whole points alone: on every grid, a point of both is whole
abbrev pub MeetInWholePoints : List Edge → Type 0
MeetInWholePoints es =
    (e f : Edge) → occurs e es ≡ true → occurs f es ≡ true → (AreOnOneLine e f → ⊥)
    → (m : ℕ) → 0 < m → (z : Point) → IsOn (refined_edge m e) z → IsOn (refined_edge m f) z → IsWhole m z
