-- What is computed for a stroke stays in the safe range.
use Rattle.std.specs.Prelude.{ℕ, Bool, List}
use Rattle.std.specs.List.Sorted.{IsPermutation}
use Rattle.mesh_plane.specs.Plane.{Point, Edge}
use Rattle.mesh_offset.specs.Staying.{IsSafeResolving}
use Rattle.mesh_stroke.specs.Styles.{StrokeStyle}
use Rattle.mesh_stroke.specs.Resolved.{all_edges}

-- the edges of the strokes of all paths are safe, in whatever order they were built, and so are all their split
-- segments and all answers
abbrev pub StaysSafe : ℕ → StrokeStyle → Bool → List (List Point) → Type 0
StaysSafe unit style closed paths =
    (built : List Edge) → IsPermutation built (all_edges unit style closed paths) → IsSafeResolving unit built
