-- Reach: how far from the edges that a piece was drawn along a point can lie that the piece holds.
use Rattle.std.specs.Prelude.{ℕ, ◌*◌, ◌<◌, ◌≤◌, ◌⊎◌, IsTrue, List, pos, ◌-ℤ◌, ◌*ℤ◌, unsigned_abs}
use Rattle.std.specs.List.{All, Contains}
use Rattle.mesh_plane.specs.Plane.{Point, Edge, minus, length_sq}
use Rattle.mesh_plane.specs.Winding.{refined, holds}
use Rattle.mesh_lattice.specs.Clean.{IsOn, refined_edge}

-- the point `q` of the grid `m` is at most the root of `b / 2` from a point of an edge, on some finer grid
pub record IsReached (b m : ℕ) (e : Edge) (q : Point) : Type 0 where
  pub grid : ℕ
  pub some : 0 < grid
  pub nearest : Point
  pub on_edge : IsOn (refined_edge (grid * m) e) nearest
  pub reached : 2 * length_sq (minus (refined grid q) nearest) ≤ b * ((grid * m) * (grid * m))

-- it is so near to one of some edges
pub record IsReachedByOne (b m : ℕ) (es : List Edge) (q : Point) : Type 0 where
  pub edge : Edge
  pub listed : Contains es edge
  pub reached : IsReached b m edge q

-- it lies within `k` 64ths of a unit, in both coordinates, of a point so near to one of some edges
pub record IsReachedWithin (k b m : ℕ) (es : List Edge) (q : Point) : Type 0 where
  pub grid : ℕ
  pub positive : 0 < grid
  pub point : Point
  pub reached : IsReachedByOne b (grid * m) es point
  pub by_x : 64 * unsigned_abs ((pos grid *ℤ q.0) -ℤ point.0) ≤ k * (grid * m)
  pub by_y : 64 * unsigned_abs ((pos grid *ℤ q.1) -ℤ point.1) ≤ k * (grid * m)

-- each point of each grid that a piece holds is so near to one of some edges
abbrev pub HoldsNear : ℕ → List Edge → List Point → Type 0
HoldsNear b es piece = (m : ℕ) (q : Point) → IsTrue (holds m q piece) → IsReachedByOne b m es q

-- a point at most the root of `b / 2` from an end of an edge
abbrev pub IsByEnd : ℕ → Edge → Point → Type 0
IsByEnd b e p = (2 * length_sq (minus p e.0) ≤ b) ⊎ (2 * length_sq (minus p e.1) ≤ b)

-- what a closed list of points holds is no farther from an edge than each point of the list is from an end of it
abbrev pub ListsReachAsTheirPoints : Type 0
ListsReachAsTheirPoints =
    (b m : ℕ) (e : Edge) (points : List Point) (q : Point)
    → All (IsByEnd b e) points → IsTrue (holds m q points) → IsReached b m e q
