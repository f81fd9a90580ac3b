-- How near points lie to edges, in 64ths of a grid unit. Distance is the greater of both coordinates' differences.
use Rattle.std.specs.Prelude.{ℕ, ◌*◌, ◌<◌, ◌≤◌, ◌≡◌, true, List, [], ◌∷◌, pos, ◌-ℤ◌, ◌*ℤ◌, unsigned_abs}
use Rattle.std.specs.List.{Contains}
use Rattle.mesh_plane.specs.Plane.{Point, Edge}
use Rattle.mesh_lattice.specs.Clean.{IsOn, refined_edge}
use Rattle.mesh_lattice.specs.Split.{occurs, EdgeSplit, path}

-- the point `q` of the grid `m` lies within `k` 64ths of a unit of an edge: on some finer grid a point of the edge has
-- both coordinates so near
pub record IsNearTo (k m : ℕ) (e : Edge) (q : Point) : Type 0 where
  pub grid : ℕ
  pub positive : 0 < grid
  pub nearest : Point
  pub on_edge : IsOn (refined_edge (grid * m) e) nearest
  pub by_x : 64 * unsigned_abs ((pos grid *ℤ q.0) -ℤ nearest.0) ≤ k * (grid * m)
  pub by_y : 64 * unsigned_abs ((pos grid *ℤ q.1) -ℤ nearest.1) ≤ k * (grid * m)

-- farther than that from each of some edges
abbrev pub IsFarFrom : ℕ → ℕ → List Edge → Point → Type 0
IsFarFrom k m es q = (e : Edge) → occurs e es ≡ true → IsNearTo k m e q → ⊥

-- so near to one of some edges
pub record IsNearSome (k m : ℕ) (es : List Edge) (q : Point) : Type 0 where
  pub edge : Edge
  pub listed : occurs edge es ≡ true
  pub near : IsNearTo k m edge q

-- each point of an edge, on every grid, lies so near to one of some edges
abbrev pub StaysNear : ℕ → List Edge → Edge → Type 0
StaysNear k es f = (m : ℕ) → 0 < m → (q : Point) → IsOn (refined_edge m f) q → IsNearSome k m es q

-- a split, and the given edge that the split segment comes from, its witness
pub record WitnessedSplit : Type 0 where
  pub split : EdgeSplit
  pub witness : Edge

-- the splits themselves, in their order
abbrev pub splits_of : List WitnessedSplit → List EdgeSplit
splits_of [] = []
splits_of (t ∷ ts) = t.split ∷ splits_of ts

-- the split segment is part of the path that its witness, a given edge, had become by the splits before, and its ends
-- and the point that it is split at lie within `k` 64ths of the witness
pub record IsSplitNear (given : List Edge) (earlier : List EdgeSplit) (k : ℕ) (t : WitnessedSplit) : Type 0 where
  pub is_given : occurs t.witness given ≡ true
  pub on_path : occurs t.split.ends (path earlier t.witness) ≡ true
  pub start : IsNearTo k 1 t.witness t.split.ends.0
  pub end : IsNearTo k 1 t.witness t.split.ends.1
  pub at : IsNearTo k 1 t.witness t.split.at

-- that holds of each of the splits, the latest first
abbrev pub AreSplitsNear : List Edge → ℕ → List WitnessedSplit → Type 0
AreSplitsNear given k [] = Unit {0}
AreSplitsNear given k (t ∷ ts) = IsSplitNear given (splits_of ts) k t × AreSplitsNear given k ts

-- one of the splits is made farther than `k` 64ths from its witness
pub record ReachesPast (k : ℕ) (ts : List WitnessedSplit) : Type 0 where
  pub split : WitnessedSplit
  pub listed : Contains ts split
  pub farther : IsNearTo k 1 split.witness split.split.at → ⊥

-- `k` 64ths are the nearness of splits: each is made within it of its witness, and one is not made within less
pub record IsNearness (given : List Edge) (splits : List EdgeSplit) (k : ℕ) : Type 0 where
  pub witnessed : List WitnessedSplit
  pub same : splits_of witnessed ≡ splits
  pub near : AreSplitsNear given k witnessed
  pub reached : (l : ℕ) → l < k → ReachesPast l witnessed
