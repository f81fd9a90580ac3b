-- Where each ring belongs: with the least ring of positive area that holds its first point.
use Rattle.std.specs.Prelude.{ℕ, ◌≡◌, ◌<◌, Bool, true, false, ◌&&◌, List, [], length, slice_index_or, nat_eq, pos}
use Rattle.std.specs.List.{enumerate_from}
use Rattle.mesh_plane.specs.Plane.{Point}
use Rattle.mesh_plane.specs.Winding.{holds}
use Rattle.mesh_shapes.specs.Resolution.{Ring, Placed, is_positive, is_head, stands_with, is_before}

-- the ring at a place, with that place
abbrev pub ring_at : List Ring → ℕ → Placed
ring_at rs i = (i, slice_index_or rs i ([], (pos 0, pos 0)))

-- rings, each with its place
abbrev pub placed : List Ring → List Placed
placed rs = enumerate_from 0 rs

-- a ring of positive area that holds the point `q`
abbrev pub encloses_at : List Ring → ℕ → Point → Bool
encloses_at rs h q = is_positive (ring_at rs h) && holds 2 q (ring_at rs h).1.0

-- the ring at `i` stands with that at `h`, which is its own place where it heads a shape
pub data IsHome (rs : List Ring) (i h : ℕ) : Type 0 where
  heads : is_head (placed rs) (ring_at rs i) ≡ true → h ≡ i → IsHome rs i h
  stands : is_head (placed rs) (ring_at rs i) ≡ false → (h ≡ i → ⊥)
      → ((k : ℕ) → k < length rs → stands_with (placed rs) (ring_at rs k) (ring_at rs i) ≡ nat_eq k h) → IsHome rs i h

-- no ring of the first `n` encloses the point
abbrev pub NoneEncloses : List Ring → ℕ → Point → Type 0
NoneEncloses rs n q = (k : ℕ) → k < n → encloses_at rs k q ≡ false

-- of the first `n` rings that enclose the point the one at `b` is of least area, and first
pub record IsHolder (rs : List Ring) (n : ℕ) (q : Point) (b : ℕ) : Type 0 where
  pub within : b < n
  pub enclosing : encloses_at rs b q ≡ true
  pub first : (k : ℕ) → k < n → encloses_at rs k q ≡ true → is_before (ring_at rs k) (ring_at rs b) ≡ false
