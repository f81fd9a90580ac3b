-- What is left where no two segments meet, over pairs of whole numbers: they share only common ends.
use Rattle.std.specs.Prelude.{ℕ, ◌<◌, ◌≡◌, true, false, List, pos}
use Rattle.mesh_plane.specs.Plane.{Point, Edge, turn}
use Rattle.mesh_plane.specs.Winding.{refined, same_point}
use Rattle.mesh_lattice.specs.Split.{same_ends, occurs, is_end, IsInBox}

-- an edge on the grid that is `m` times finer
abbrev pub refined_edge : ℕ → Edge → Edge
refined_edge m e = (refined m e.0, refined m e.1)

-- a point of a closed edge
pub record IsOn (e : Edge) (z : Point) : Type 0 where
  pub on_line : turn e.0 e.1 z ≡ pos 0
  pub in_box : IsInBox e z

-- two segments share nothing, or an end of both: on the grid `m`, a shared point is an end of both
pub record ShareEnds (m : ℕ) (e f : Edge) : Type 0 where
  pub shared : (z : Point) → IsOn (refined_edge m e) z → IsOn (refined_edge m f) z
      → (is_end z (refined_edge m e) ≡ true) × (is_end z (refined_edge m f) ≡ true)

-- any two segments have the same ends or share only common ends, on every grid
abbrev pub IsClean : List Edge → Type 0
IsClean es =
    (e f : Edge) → occurs e es ≡ true → occurs f es ≡ true → same_ends e f ≡ false
    → (m : ℕ) → 0 < m → ShareEnds m e f

-- no edge's ends are one point
abbrev pub IsProper : List Edge → Type 0
IsProper es = (e : Edge) → occurs e es ≡ true → same_point e.0 e.1 ≡ false
