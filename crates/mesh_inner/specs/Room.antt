-- Room: how near to a section of its path each point is held by a piece of a stroke. `t` is twice the square of a distance.
use Rattle.std.specs.Prelude.{ℕ, ◌*◌, ◌≤◌, List, pos, ◌+ℤ◌, ◌≤ℤ◌, unsigned_abs}
use Rattle.std.specs.List.{All}
use Rattle.mesh_plane.specs.Plane.{Point, Edge, minus, cross, dot, length_sq}

-- both sides of a section along `v`, which `s` moves to, are so far from it
abbrev pub IsWideEnough : ℕ → Point → Point → Type 0
IsWideEnough t s v = t * length_sq v ≤ 2 * (unsigned_abs (dot s v) * unsigned_abs (dot s v))

-- seen from a corner, what lies between the ends of an edge so near to the corner is in the triangle over the edge
pub record HasRoom (t : ℕ) (x y : Point) : Type 0 where
  pub ahead : pos 0 ≤ℤ cross x y
  pub first : t ≤ 2 * length_sq x
  pub last : t ≤ 2 * length_sq y
  pub by_first : pos t ≤ℤ (pos (length_sq x) +ℤ dot x y)
  pub by_last : pos t ≤ℤ (pos (length_sq y) +ℤ dot x y)

-- the triangles from `v` over edges have that room
abbrev pub FansHaveRoom : ℕ → Point → List Edge → Type 0
FansHaveRoom t v es = All (λ (e : Edge). HasRoom t (minus e.0 v) (minus e.1 v)) es
