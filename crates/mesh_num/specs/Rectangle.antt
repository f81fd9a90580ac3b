-- Bounds of points, given by their least and greatest corner, and the safe range of bounds widened by a padding.
use Rattle.std.specs.Prelude.{ℕ, List, map, ℤ, ◌≤ℤ◌}
use Rattle.std.specs.List.{All, Contains}
use Rattle.mesh_plane.specs.Bounds.{IsSafe}
use Rattle.mesh_plane.specs.Plane.{Point, Edge, plus, minus}

-- the point lies in the closed rectangle
pub record IsInRectangle (bounds : Edge) (p : Point) : Type 0 where
  pub west : bounds.0.0 ≤ℤ p.0
  pub south : bounds.0.1 ≤ℤ p.1
  pub east : p.0 ≤ℤ bounds.1.0
  pub north : p.1 ≤ℤ bounds.1.1

-- the least closed rectangle that holds the points: it holds each, and each of its sides is a coordinate of one
pub record IsBounds (bounds : Edge) (points : List Point) : Type 0 where
  pub inside : All (λ p. IsInRectangle bounds p) points
  pub west : Contains (map (λ p. p.0) points) bounds.0.0
  pub south : Contains (map (λ p. p.1) points) bounds.0.1
  pub east : Contains (map (λ p. p.0) points) bounds.1.0
  pub north : Contains (map (λ p. p.1) points) bounds.1.1

-- the least and the greatest corner are safe, so each side is
abbrev pub IsSafeRectangle : ℕ → Edge → Type 0
IsSafeRectangle unit bounds = IsSafe unit bounds.0 × IsSafe unit bounds.1

-- the point stays safe in each coordinate where it moves by at most the padding
abbrev pub IsSafeWidened : ℕ → ℤ → Point → Type 0
IsSafeWidened unit padding p = IsSafe unit (minus p (padding, padding)) × IsSafe unit (plus p (padding, padding))
