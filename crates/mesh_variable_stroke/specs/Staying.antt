-- What is computed for strokes of variable width stays in the safe range.
use Rattle.std.specs.Prelude.{ℕ, List}
use Rattle.std.specs.List.Sorted.{IsPermutation}
use Rattle.mesh_plane.specs.Plane.{Edge}
use Rattle.mesh_arc.specs.declared.arc.ArcOptions.{ArcOptions}
use Rattle.mesh_join.specs.VariableStyles.{Vertex}
use Rattle.mesh_offset.specs.Staying.{IsSafeResolving}
use Rattle.mesh_variable_stroke.specs.Resolved.{all_edges}

-- the edges of the strokes of all paths are safe, in whatever order they were built, and so are all their split
-- segments and all answers
abbrev pub StaysSafe : ℕ → ArcOptions → List (List Vertex) → Type 0
StaysSafe unit options paths =
    (built : List Edge) → IsPermutation built (all_edges unit options paths) → IsSafeResolving unit built
