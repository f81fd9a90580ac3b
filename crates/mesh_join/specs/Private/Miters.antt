-- What the steps of a miter know: only private contracts read this.
use Rattle.std.specs.Prelude.{ℕ, ℤ, pos, ◌≡◌, ◌^◌, ◌≤◌, ◌≤ℤ◌, unsigned_abs, List}
use Rattle.mesh_plane.specs.Plane.{Point, Edge, cross, dot}
use Rattle.mesh_plane.specs.Winding.{route}
use Rattle.mesh_join.specs.Joints.{Joint}
use Rattle.mesh_join.specs.Miters.{MiterStyle, sharpest, slightest, half_sharpest, usable, miter_points}
use Rattle.mesh_sine.specs.Sine.{sin_cos, IsWithinOne}

-- the sines and cosines of a miter's angles, computed once
pub record HasSines (angle min_turn : ℕ) (slight sharp half : Point) : Type 0 where
  pub of_slightest : slight ≡ sin_cos (slightest min_turn)
  pub of_sharpest : sharp ≡ sin_cos (sharpest angle)
  pub of_half : half ≡ half_sharpest angle
  pub short_slightest : IsWithinOne slight
  pub short_sharpest : IsWithinOne sharp
  pub short_half : IsWithinOne half

-- the size of the sine of half a sharpest angle: 1 is 2 ^ 30
pub record IsHalfSine (s : ℤ) : Type 0 where
  pub least : pos (2 ^ 24) ≤ℤ s
  pub most : s ≤ℤ pos (2 ^ 30)

-- the cross and the dot product of both directions
abbrev pub turn_products : Joint → Point
turn_products j = (cross j.incoming j.outgoing, dot j.incoming j.outgoing)

-- the edges through the points, if they can be used, else the bevel
abbrev pub usable_edges : ℤ → Joint → List Point → List Edge
usable_edges padding j points = route j.first (usable padding j points) j.last

-- the edges of a miter between two points that differ
abbrev pub miter_edges : MiterStyle → ℕ → Joint → List Edge
miter_edges style unit j = route j.first (miter_points style.angle style.min_turn unit j) j.last

-- both parts are at most `n` in size
pub record IsNarrow (n : ℕ) (v : Point) : Type 0 where
  pub x : unsigned_abs v.0 ≤ n
  pub y : unsigned_abs v.1 ≤ n

-- as small as a point of 32 bits
abbrev pub IsPointPair : Point → Type 0
IsPointPair = IsNarrow (2 ^ 31)

-- as small as the vector between two such points
abbrev pub IsVectorPair : Point → Type 0
IsVectorPair = IsNarrow (2 ^ 32)

-- so small that sums fit 128 bits
abbrev pub IsSummand : Point → Type 0
IsSummand = IsNarrow (2 ^ 100)
