-- Rectangles along the axes, with their borders.
use Rattle.std.specs.Prelude.{ℕ, ◌≡◌, slice_index_or, pos, ◌≤ℤ◌}
use Rattle.std.specs.Int.{bit_at}
use Rattle.mesh_plane.specs.Plane.{Point}
use Rattle.mesh_pairs.specs.declared.boxes.Bounds.{Bounds}
use Rattle.mesh_pairs.specs.declared.boxes.EightBounds.{EightBounds}

-- a point lies in a rectangle
pub record Holds (b : Bounds) (p : Point) : Type 0 where
  pub west : b.west ≤ℤ p.0
  pub east : p.0 ≤ℤ b.east
  pub south : b.south ≤ℤ p.1
  pub north : p.1 ≤ℤ b.north

-- all that lies in the second rectangle lies in the first
pub record Covers (b c : Bounds) : Type 0 where
  pub west : b.west ≤ℤ c.west
  pub east : c.east ≤ℤ b.east
  pub south : b.south ≤ℤ c.south
  pub north : c.north ≤ℤ b.north

-- two rectangles that hold something have a point in common
pub record DoMeet (b c : Bounds) : Type 0 where
  pub west : b.west ≤ℤ c.east
  pub east : c.west ≤ℤ b.east
  pub south : b.south ≤ℤ c.north
  pub north : c.south ≤ℤ b.north

-- one of eight rectangles
abbrev pub lane : EightBounds → ℕ → Bounds
lane e k = record {
  west = slice_index_or e.west k (pos 0);
  east = slice_index_or e.east k (pos 0);
  south = slice_index_or e.south k (pos 0);
  north = slice_index_or e.north k (pos 0);
}

-- a place belongs to a set of places, which is a number
abbrev pub IsIn : ℕ → ℕ → Type 0
IsIn places k = bit_at places k ≡ 1
