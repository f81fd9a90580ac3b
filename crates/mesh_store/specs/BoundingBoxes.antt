-- The box of a segment, by its bounds: the least coordinates, and the greatest.
use Rattle.std.specs.Prelude.{Bool, ◌&&◌, ◌||◌, ℤ, ◌≤ℤ◌, int_lt}
use Rattle.mesh_plane.specs.Plane.{Edge}

-- both numbers are below a range, or both above it
abbrev pub are_beyond : ℤ → ℤ → ℤ → ℤ → Bool
are_beyond least most a b = (int_lt a least && int_lt b least) || (int_lt most a && int_lt most b)

-- an edge lies beside the box with these bounds
abbrev pub is_beside : Edge → Edge → Bool
is_beside bounds e =
    are_beyond bounds.0.0 bounds.1.0 e.0.0 e.1.0 || are_beyond bounds.0.1 bounds.1.1 e.0.1 e.1.1

-- both ends of an edge lie in the box with these bounds
pub record AreBounds (bounds e : Edge) : Type 0 where
  pub west_of_start : bounds.0.0 ≤ℤ e.0.0
  pub west_of_end : bounds.0.0 ≤ℤ e.1.0
  pub south_of_start : bounds.0.1 ≤ℤ e.0.1
  pub south_of_end : bounds.0.1 ≤ℤ e.1.1
  pub east_of_start : e.0.0 ≤ℤ bounds.1.0
  pub east_of_end : e.1.0 ≤ℤ bounds.1.0
  pub north_of_start : e.0.1 ≤ℤ bounds.1.1
  pub north_of_end : e.1.1 ≤ℤ bounds.1.1
