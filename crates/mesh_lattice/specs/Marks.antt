-- Places among marks on an axis, and lists by such places.
use Rattle.std.specs.Prelude.{ℕ, ◌≡◌, ◌+◌, ◌<◌, ◌≤◌, ◌⊎◌, cond, List, [], ◌∷◌, ◌++◌, length, slice_index_or, ℤ, int_le}
use Rattle.std.specs.Prelude.{◌≤ℤ◌, Vec}
use Rattle.std.specs.declared.alloc.Global.{Global}
use Rattle.mesh_lattice.specs.declared.places.Mark.{Mark}

-- how many of the marks are not above a number
abbrev pub place : List Mark → ℤ → ℕ
place [] z = 0
place (m ∷ ms) z = cond (int_le m.at z) 1 0 + place ms z

-- no mark is below one before it
pub record AreRising (ms : List Mark) : Type 0 where
  pub rising : (i j : ℕ) (d : Mark) → i ≤ j → j < length ms → (slice_index_or ms i d).at ≤ℤ (slice_index_or ms j d).at

-- an element was added at the end of each list from `first` on and below `end`, and of no other
pub record IsPutTo {A : Type 0} (old new : List (Vec A Global)) (first end : ℕ) (x : A) : Type 0 where
  pub len : length new ≡ length old
  pub inside : (i : ℕ) (d : Vec A Global) → first ≤ i → i < end → i < length old
      → (slice_index_or new i d).items ≡ (slice_index_or old i d).items ++ x ∷ []
  pub outside : (i : ℕ) (d : Vec A Global) → (i < first) ⊎ (end ≤ i)
      → (slice_index_or new i d).items ≡ (slice_index_or old i d).items
