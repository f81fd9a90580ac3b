-- Tangents: the points at which the common outer tangents of two circles touch them.
use Rattle.std.specs.Prelude.{ℕ, ◌-◌, ◌*◌, ◌/◌, ◌^◌, ◌≤◌, ℤ, pos, ◌+ℤ◌, ◌-ℤ◌, ◌*ℤ◌, unsigned_abs}
use Rattle.std.specs.Int.{leading_zeros, w64}
use Rattle.mesh_plane.specs.Plane.{Point, length_sq}
use Rattle.mesh_plane.specs.Rounding.{rounded}
use Rattle.mesh_sine.specs.Sine.{root}

-- how often a squared length can be doubled and stays below `8 * unit * unit`, the bound of the wide type
abbrev pub doublings : ℕ → ℕ → ℕ
doublings unit square = leading_zeros w64 square - leading_zeros w64 (8 * unit * unit) - 1

-- the power of two by whose square it is lifted below that bound, so that its root has more digits
abbrev pub lift : ℕ → ℕ → ℕ
lift unit square = 2 ^ (doublings unit square / 2)

-- how far the contacts lie apart, lifted: with the difference of the radii it makes the triangle over the centers
abbrev pub tangent_length : ℕ → Point → ℤ → ℕ
tangent_length unit v delta =
    root ((length_sq v - unsigned_abs delta * unsigned_abs delta) * (lift unit (length_sq v) * lift unit (length_sq v)))

-- the directions from both centers to their contacts on the left and on the right of `v`, the vector from the first
-- center to the second, where `delta` is by how much the first radius is greater
abbrev pub left_normal : ℕ → Point → ℤ → Point
left_normal unit v delta = (
  ((delta *ℤ pos (lift unit (length_sq v))) *ℤ v.0) -ℤ (pos (tangent_length unit v delta) *ℤ v.1),
  ((delta *ℤ pos (lift unit (length_sq v))) *ℤ v.1) +ℤ (pos (tangent_length unit v delta) *ℤ v.0),
)

abbrev pub right_normal : ℕ → Point → ℤ → Point
right_normal unit v delta = (
  ((delta *ℤ pos (lift unit (length_sq v))) *ℤ v.0) +ℤ (pos (tangent_length unit v delta) *ℤ v.1),
  ((delta *ℤ pos (lift unit (length_sq v))) *ℤ v.1) -ℤ (pos (tangent_length unit v delta) *ℤ v.0),
)

-- the length that no normal passes
abbrev pub normal_length : ℕ → Point → ℕ
normal_length unit v = length_sq v * lift unit (length_sq v)

-- a normal as long as a radius, rounded
abbrev pub at_radius : ℕ → ℤ → Point → Point
at_radius length radius n = (rounded (radius *ℤ n.0) length, rounded (radius *ℤ n.1) length)

-- the vectors from the center of a circle to its contacts
abbrev pub left_offset : ℕ → Point → ℤ → ℤ → Point
left_offset unit v delta radius = at_radius (normal_length unit v) radius (left_normal unit v delta)

abbrev pub right_offset : ℕ → Point → ℤ → ℤ → Point
right_offset unit v delta radius = at_radius (normal_length unit v) radius (right_normal unit v delta)

-- a vector passes the radius in no coordinate, and its length, cut to a whole number, is at most the radius
pub record IsWithinRadius (radius : ℤ) (v : Point) : Type 0 where
  pub x : unsigned_abs v.0 ≤ unsigned_abs radius
  pub y : unsigned_abs v.1 ≤ unsigned_abs radius
  pub length : root (length_sq v) ≤ unsigned_abs radius
