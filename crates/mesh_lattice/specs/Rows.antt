-- Edges listed by the rows that they reach. Beside each stands something else, as its count.
use Rattle.std.specs.Prelude.{ℕ, ◌≡◌, ◌+◌, ◌<◌, Bool, ◌&&◌, List, length, slice_index_or, min, max, nat_le, pos}
use Rattle.std.specs.Prelude.{◌*ℤ◌, Vec}
use Rattle.std.specs.declared.alloc.Global.{Global}
use Rattle.std.specs.List.{filter}
use Rattle.mesh_plane.specs.Plane.{Edge}
use Rattle.mesh_lattice.specs.declared.places.Mark.{Mark}
use Rattle.mesh_lattice.specs.Marks.{place, AreRising}

-- the lowest and the highest row that an edge reaches, by the heights of its ends on the grid 2
abbrev pub first_row : {T : Type 0} → List Mark → Edge × T → ℕ
first_row marks e = min (place marks (pos 2 *ℤ e.0.0.1)) (place marks (pos 2 *ℤ e.0.1.1))

abbrev pub last_row : {T : Type 0} → List Mark → Edge × T → ℕ
last_row marks e = max (place marks (pos 2 *ℤ e.0.0.1)) (place marks (pos 2 *ℤ e.0.1.1))

-- an edge reaches a row
abbrev pub reaches_row : {T : Type 0} → List Mark → ℕ → Edge × T → Bool
reaches_row marks row e = nat_le (first_row marks e) row && nat_le row (last_row marks e)

-- each row has the edges that reach it, in their order
pub record AreRows {T : Type 0} (marks : List Mark) (lists : List (Vec (Edge × T) Global)) (es : List (Edge × T))
    : Type 0 where
  pub rising : AreRising marks
  pub len : length lists ≡ length marks + 1
  pub rows : (i : ℕ) (d : Vec (Edge × T) Global) → i < length lists
      → (slice_index_or lists i d).items ≡ filter (reaches_row marks i) es
