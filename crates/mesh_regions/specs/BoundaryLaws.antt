-- Laws of boundaries. The function of the same name in the module `laws` carries each.
use Rattle.std.specs.Prelude.{List, Bool, cond, ℤ, pos, ℕ, ◌<◌, ◌≡◌, false}
use Rattle.mesh_plane.specs.Plane.{Edge, Point}
use Rattle.mesh_plane.specs.Winding.{IsBalanced, winding}
use Rattle.mesh_lattice.specs.Boundary.{IsBoundary}
use Rattle.mesh_regions.specs.SideLaws.{AreSplit}

-- a winding that is filled stands for 1, any other for 0
abbrev pub once : (ℤ → Bool) → ℤ → ℤ
once fill w = cond (fill w) (pos 1) (pos 0)

-- the boundary winds once round each point where the segments' winding is filled, and round no other, on every grid
abbrev pub BoundariesWindOnce : Type 0
BoundariesWindOnce =
    (es bs : List Edge) (fill : ℤ → Bool) → AreSplit es → fill (pos 0) ≡ false → IsBoundary es fill bs
    → (m : ℕ) → 0 < m → (q : Point) → winding m q bs ≡ once fill (winding m q es)

-- at each point as many edges of the boundary start as end
abbrev pub BoundariesAreBalanced : Type 0
BoundariesAreBalanced =
    (es bs : List Edge) (fill : ℤ → Bool) → AreSplit es → fill (pos 0) ≡ false → IsBoundary es fill bs → IsBalanced bs
