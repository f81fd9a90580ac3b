-- Rotations: vectors turned by an angle, in whole numbers.
use Rattle.std.specs.Prelude.{ℕ, suc, ◌*◌, ◌/◌, ◌≤◌, ◌^◌, ℤ, pos, negsuc, neg_ℤ, ◌+ℤ◌, ◌-ℤ◌, ◌*ℤ◌, unsigned_abs}
use Rattle.mesh_plane.specs.Plane.{Point, length_sq}
use Rattle.mesh_plane.specs.Rounding.{rounded}

-- a whole number over 2 ^ 30, cut towards 0
abbrev pub cut : ℤ → ℤ
cut (pos a) = pos (a / 2 ^ 30)
cut (negsuc a) = neg_ℤ (pos (suc a / 2 ^ 30))

-- the vector turned by an angle, times the denominator of the angle's sine and cosine
abbrev pub turned : Point → Point → Point
turned s v = ((s.1 *ℤ v.0) -ℤ (s.0 *ℤ v.1), (s.0 *ℤ v.0) +ℤ (s.1 *ℤ v.1))

-- the vector turned by the angle with this sine and cosine, both times 2 ^ 30; each component is cut
abbrev pub rotated : Point → Point → Point
rotated s v = (cut (turned s v).0, cut (turned s v).1)

-- the vector turned with the axis x to the direction `n`, which holds the cosine and the sine of the angle, both times
-- `unit`; each component is rounded
abbrev pub turned_along : ℕ → Point → Point → Point
turned_along unit n v = (rounded (turned (n.1, n.0) v).0 unit, rounded (turned (n.1, n.0) v).1 unit)

-- no component of `w` passes the length of `v`, made a whole number that is not less
abbrev pub IsWithinLength : Point → Point → Type 0
IsWithinLength v w = (reach : ℕ) → length_sq v ≤ reach * reach → (unsigned_abs w.0 ≤ reach) × (unsigned_abs w.1 ≤ reach)

-- the sine and the cosine of the opposite angle
abbrev pub turned_round : Point → Point
turned_round s = (neg_ℤ s.0, s.1)
