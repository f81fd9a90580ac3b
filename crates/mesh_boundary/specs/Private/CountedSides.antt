-- The two sides of counted segments, and the edge that each gives to the boundary.
use Rattle.std.specs.Prelude.{Bool, cond, not, ◌&&◌, List, [], ◌∷◌, ℤ, ◌+ℤ◌, ◌-ℤ◌, ◌*ℤ◌}
use Rattle.mesh_plane.specs.Plane.{Point, Edge}
use Rattle.mesh_plane.specs.Winding.{sum_of, crossing_on}
use Rattle.mesh_lattice.specs.Split.{back}
use Rattle.mesh_lattice.specs.Counted.{Counted}
use Rattle.mesh_lattice.specs.Boundary.{rises, middle}

-- how often counted segments wind round a point of the grid 2
abbrev pub counted_winding : Point → List Counted → ℤ
counted_winding q ks = sum_of (λ (k : Counted). k.1 *ℤ crossing_on 2 q k.0.0 k.0.1) ks

-- the windings to the left and to the right of a segment, where `w` is that beside it
abbrev pub sides_by : ℤ → Counted → ℤ × ℤ
sides_by w k = cond (rises k.0) (w +ℤ k.1, w) (w, w -ℤ k.1)

-- the windings to the left and to the right of a segment among others
abbrev pub sides_of : List Counted → Counted → ℤ × ℤ
sides_of ks k = sides_by (counted_winding (middle k.0) ks) k

-- whether the first side is filled and the second is not
abbrev pub is_parted : (ℤ → Bool) → ℤ × ℤ → Bool
is_parted fill s = fill s.0 && not (fill s.1)

-- the edge of the boundary on a segment, with the filled side on its left, where there is one
abbrev pub boundary_edge : (ℤ → Bool) → ℤ × ℤ → Edge → List Edge
boundary_edge fill s e =
    cond (is_parted fill s) (e ∷ []) (cond (is_parted fill (s.1, s.0)) (back e ∷ []) [])
