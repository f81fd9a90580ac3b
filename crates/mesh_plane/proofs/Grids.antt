-- Lemmas over points and lists: windings at points of finer grids.
use Rattle.std.specs.Prelude.{ℤ, ◌*ℤ◌, ◌+ℤ◌, ◌-ℤ◌}
use Rattle.mesh_plane.specs.Plane.{Point, Edge}
use Rattle.std.proofs.Common.{List}
use Rattle.mesh_plane.specs.Winding.{crossing, total}

-- a point on the grid that is `m` times finer, `m` any whole number
abbrev pub scale : ℤ → Point → Point
scale m p = (m *ℤ p.0, m *ℤ p.1)

-- the winding at a point of the grid `m`
abbrev pub winds : ℤ → Point → List Edge → ℤ
winds m q es = total (λ (p r : Point). crossing q (scale m p) (scale m r)) es

-- the point `t` parts of `m` on the way from `a` to `b`, on the grid `m`
abbrev pub part : ℤ → ℤ → Point → Point → Point
part m t a b = ((m *ℤ a.0) +ℤ (t *ℤ (b.0 -ℤ a.0)), (m *ℤ a.1) +ℤ (t *ℤ (b.1 -ℤ a.1)))
