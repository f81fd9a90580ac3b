-- Numbered points: a list of them, in which each has its place as its number.
use Rattle.std.specs.Prelude.{ℕ, ◌≡◌, ◌<◌, List, [], ◌∷◌, ◌++◌, length, slice_index_or, pos}
use Rattle.mesh_plane.specs.Plane.{Point}

-- the point of a number
abbrev pub point_at : List Point → ℕ → Point
point_at ps k = slice_index_or ps k (pos 0, pos 0)

-- a number is that of a point
pub record IsNumberOf (ps : List Point) (p : Point) (k : ℕ) : Type 0 where
  pub within : k < length ps
  pub at : point_at ps k ≡ p

-- no point has two numbers
pub record AreDistinct (ps : List Point) : Type 0 where
  pub distinct : (i j : ℕ) → i < j → j < length ps → point_at ps i ≡ point_at ps j → ⊥

-- a point that had no number got the next one
pub record IsNewPoint (old new : List Point) (p : Point) : Type 0 where
  pub absent : (k : ℕ) → IsNumberOf old p k → ⊥
  pub added : new ≡ old ++ p ∷ []
