-- What edges that stay clear of each other are good for. The functions of the same names in the module `laws` carry it.
use Rattle.std.specs.Prelude.{ℕ, ◌*◌, ◌+◌, ◌<◌, ◌≤◌, ◌-ℤ◌, unsigned_abs}
use Rattle.mesh_plane.specs.Plane.{Point, Edge, turn}
use Rattle.mesh_lattice.specs.Clean.{IsOn, refined_edge}
use Rattle.mesh_lattice.specs.Split.{IsInBox}
use Rattle.mesh_pairs.specs.Pairs.{StayClear}

-- the sum of the sizes of both coordinates' differences
abbrev pub spread : Edge → ℕ
spread e = unsigned_abs (e.1.0 -ℤ e.0.0) + unsigned_abs (e.1.1 -ℤ e.0.1)

-- a point lies in an edge's box, and at most `k` units from its line
pub record IsStop (k : ℕ) (e : Edge) (p : Point) : Type 0 where
  pub in_box : IsInBox e p
  pub height : unsigned_abs (turn e.0 e.1 p) ≤ k * spread e

-- where two edges stay clear, pieces between such stops of the one and of the other have no point in common
abbrev pub ClearPiecesDoNotMeet : Type 0
ClearPiecesDoNotMeet =
    (k : ℕ) (e f p q : Edge) → StayClear k e f → IsStop k e p.0 → IsStop k e p.1 → IsStop k f q.0 → IsStop k f q.1
    → (m : ℕ) → 0 < m → (z : Point) → IsOn (refined_edge m p) z → IsOn (refined_edge m q) z → ⊥
