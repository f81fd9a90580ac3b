-- What is asked of one coordinate. Private contracts alone read this.
use Rattle.std.specs.Prelude.{ℕ, ℤ, ◌+ℤ◌, ◌-ℤ◌}
use Rattle.mesh_plane.specs.Bounds.{IsSmall}

-- a coordinate stays safe where it moves by at most the padding, either way
abbrev pub IsRoomLeft : ℕ → ℤ → ℤ → Type 0
IsRoomLeft unit padding coordinate = IsSmall unit (coordinate -ℤ padding) × IsSmall unit (coordinate +ℤ padding)
