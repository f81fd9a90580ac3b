-- Rows along a slanted direction. Points are those of the grid 2, but for the ends of segments.
use Rattle.std.specs.Prelude.{ℕ, ◌<◌, ◌<ℤ◌, ◌/◌, ◌-◌, ◌^◌, min, Bool, cond, ◌&&◌, ℤ, pos, ◌+ℤ◌, ◌-ℤ◌, ◌*ℤ◌}
use Rattle.std.specs.Prelude.{int_le, int_lt, unsigned_abs, List, map}
use Rattle.mesh_plane.specs.Bounds.{IsSmall, IsSafe}
use Rattle.mesh_plane.specs.Plane.{Point, Edge, cross}
use Rattle.mesh_plane.specs.Winding.{sum_of, crossing_on, refined}
use Rattle.mesh_lattice.specs.Counted.{Counted, bit, size}
use Rattle.mesh_lattice.specs.declared.rows.Rows.{Rows}
use Rattle.mesh_lattice.specs.Rows.{AreRows}

-- a direction, which leads upwards, and the base and the step of levels across it
pub record IsSlant (s : Point × (ℤ × ℕ)) : Type 0 where
  pub small : IsSafe (2 ^ 32) s.0
  pub upwards : pos 0 <ℤ s.0.1
  pub base : IsSmall (2 ^ 68) s.1.0
  pub step : 0 < s.1.1

-- whether a point lies between the ray from `q` to the east and that along `d`, which leads upwards
abbrev pub is_between : Point → Point → Point → Bool
is_between d q p = int_lt q.1 p.1 && int_le (cross d p) (cross d q)

-- how a segment crosses the ray from `q` to the east, and whether its start lies between the rays less whether its end
-- does: round a point sums of this are those of the crossings; it is 0 where the segment keeps to one side of the line
-- through `q` along `d`
abbrev pub slanted_crossing : Point → Point → Edge → ℤ
slanted_crossing d q e =
    crossing_on 2 q e.0 e.1 +ℤ (bit (is_between d q (refined 2 e.0)) -ℤ bit (is_between d q (refined 2 e.1)))

abbrev pub slanted_winding : Point → Point → List Counted → ℤ
slanted_winding d q ks = sum_of (λ (k : Counted). k.1 *ℤ slanted_crossing d q k.0) ks

-- a number counted in steps from a base up, so that it fits 32 bits
abbrev pub level_of : ℤ → ℕ → ℤ → ℤ
level_of base step z = cond (int_le z base) (pos 0) (pos (min (unsigned_abs (z -ℤ base) / step) (2 ^ 31 - 1)))

-- a segment, listed by the levels of its ends across `d`
abbrev pub leveled : Point → (ℤ → ℤ) → Counted → Edge × Counted
leveled d level k =
    (((pos 0, level (cross d (refined 2 k.0.0))), (pos 0, level (cross d (refined 2 k.0.1)))), k)

-- the sum over segments that are listed by levels
abbrev pub listed_winding : Point → Point → List (Edge × Counted) → ℤ
listed_winding d q row = sum_of (λ (e : Edge × Counted). e.1.1 *ℤ slanted_crossing d q e.1.0) row

-- the sizes of their counts
abbrev pub listed_size : List (Edge × Counted) → ℤ
listed_size row = sum_of (λ (e : Edge × Counted). size e.1) row

-- segments, listed by a slant's levels
abbrev pub leveled_by : Point × (ℤ × ℕ) → Counted → Edge × Counted
leveled_by s k = leveled s.0 (level_of s.1.0 s.1.1) k

-- the rows of segments along a slant
abbrev pub AreSlantedRows : Point × (ℤ × ℕ) → Rows Counted → List Counted → Type 0
AreSlantedRows s r ks = AreRows r.marks.items r.lists.items (map (leveled_by s) ks)
