-- What is known of the boxes of zones while pairs that meet are looked for. Private contracts alone read this.
use Rattle.std.specs.Prelude.{ℕ, ◌<◌, ◌≡◌, ◌≢◌, ◌⊎◌, List, [], length, get_or, min, max, ◌≤ℤ◌}
use Rattle.std.specs.List.{All, AllPairs, Contains}
use Rattle.mesh_plane.specs.Plane.{Point, Edge}
use Rattle.mesh_num.specs.Rectangle.{IsInRectangle}
use Rattle.mesh_boolean.specs.Overlaps.{AreBoxesApart, AreRectanglesApart, IsPairBefore, points_of}

-- the place of a zone, and its bounds
abbrev pub PlacedBox : Type 0
PlacedBox = ℕ × Edge

-- the box of the zone at this place, which holds all its points
abbrev pub IsBoxOf : List (List (List (List Point))) → ℕ → PlacedBox → Type 0
IsBoxOf zones k b = (b.0 ≡ k) × All (λ p. IsInRectangle b.1 p) (points_of (get_or zones k []))

-- the boxes of so many first zones, in their order
pub record AreBoxes (zones : List (List (List (List Point)))) (so_many : ℕ) (boxes : List PlacedBox) : Type 0 where
  pub count : length boxes ≡ so_many
  pub own : (k : ℕ) (d : PlacedBox) → k < length boxes → IsBoxOf zones k (get_or boxes k d)

-- no box starts farther west than those that follow it
abbrev pub IsNotPast : PlacedBox → PlacedBox → Type 0
IsNotPast first second = first.1.0.0 ≤ℤ second.1.0.0

-- two places among so many zones
abbrev pub AreTwoOf : ℕ → ℕ → ℕ → Type 0
AreTwoOf n i j = (i ≢ j) × (i < n) × (j < n)

-- the same, in ascending order
abbrev pub IsPairOf : ℕ → ℕ × ℕ → Type 0
IsPairOf n p = (p.0 < p.1) × (p.1 < n)

-- two boxes are apart, or their places are listed in ascending order
abbrev pub IsFound : List (ℕ × ℕ) → PlacedBox → PlacedBox → Type 0
IsFound pairs b c = AreRectanglesApart b.1 c.1 ⊎ Contains pairs (min b.0 c.0, max b.0 c.0)

-- the pairs of a box with those that follow it are found, and the others are kept
pub record FindsPairs (own : PlacedBox) (following : List PlacedBox) (old new : List (ℕ × ℕ)) : Type 0 where
  pub kept : (p : ℕ × ℕ) → Contains old p → Contains new p
  pub each : (n : ℕ) → All (λ (c : PlacedBox). AreTwoOf n own.0 c.0) following → All (IsPairOf n) old
      → All (IsPairOf n) new
  pub found : All (IsFound new own) following

-- the pairs of so many first boxes, each with those that follow it, are found
pub record AreFound (boxes : List PlacedBox) (so_many : ℕ) (pairs : List (ℕ × ℕ)) : Type 0 where
  pub each : (n : ℕ) → AllPairs (λ (b c : PlacedBox). AreTwoOf n b.0 c.0) boxes → All (IsPairOf n) pairs
  pub found : (i j : ℕ) (d : PlacedBox) → i < so_many → i < j → j < length boxes
      → IsFound pairs (get_or boxes i d) (get_or boxes j d)

-- pairs of zones in lexicographic order, each once; all others lie in boxes that are apart
pub record AreMeetingPairs (zones : List (List (List (List Point)))) (pairs : List (ℕ × ℕ)) : Type 0 where
  pub each : All (IsPairOf (length zones)) pairs
  pub ordered : AllPairs (λ (p q : ℕ × ℕ). IsPairBefore p.0 p.1 q.0 q.1) pairs
  pub others : (i j : ℕ) → i < j → j < length zones
      → Contains pairs (i, j) ⊎ AreBoxesApart (get_or zones i []) (get_or zones j [])
