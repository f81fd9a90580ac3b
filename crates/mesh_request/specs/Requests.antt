-- Requests that are served.
use Rattle.std.specs.Prelude.{ℕ, Bool}
use Rattle.mesh_below.specs.Options.{choices_of}
use Rattle.mesh_shapes.specs.Resolution.{Choices}
use Rattle.mesh_drawing.specs.Drawn.{Drawn}
use Rattle.mesh_drawing.specs.declared.asked.Output.{Output}

-- what is asked of what is drawn: the edges of each path, or the shapes of all paths with these choices
pub data Asked : Type 0 where
  for_edges : Asked
  for_shapes : Choices → Asked

-- what an `Output` stands for, where `value` is the whole number that an area stands for
abbrev pub asked_of : {U : Type 0} → (U → ℕ) → Output U → Asked
asked_of value Output.Edges = for_edges
asked_of value (Output.Shapes options) = for_shapes (choices_of value options)

-- a request: what is drawn, what is asked of it, and whether distances are told of its shapes. Its coordinates are of the
-- type with `unit`, which holds the whole numbers from `-2 * unit` on that are below `2 * unit`
pub record Request : Type 0 where
  pub unit : ℕ
  pub drawn : Drawn
  pub asked : Asked
  pub distances : Bool
