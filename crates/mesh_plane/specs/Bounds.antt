-- Ranges of whole numbers and the safe range of coordinates.
use Rattle.std.specs.Prelude.{ℕ, ℤ, pos, ◌≤ℤ◌, ◌<ℤ◌, neg_ℤ}
use Rattle.mesh_plane.specs.Plane.{Point}

-- at least `-h` and below `h`: what a signed type of twice as many values holds
pub record IsWithin (h : ℕ) (z : ℤ) : Type 0 where
  pub low : neg_ℤ (pos h) ≤ℤ z
  pub high : z <ℤ pos h

-- below `h` in size
pub record IsSmall (h : ℕ) (z : ℤ) : Type 0 where
  pub low : neg_ℤ (pos h) <ℤ z
  pub high : z <ℤ pos h

-- both coordinates are below `unit` in size
pub record IsSafe (unit : ℕ) (p : Point) : Type 0 where
  pub x : IsSmall unit p.0
  pub y : IsSmall unit p.1
