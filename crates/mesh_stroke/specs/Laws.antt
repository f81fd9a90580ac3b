-- Laws of strokes of many paths. The function of the same name in the module `laws` carries each. Coordinates are of a
-- type with `unit`.
use Rattle.std.specs.Prelude.{ℕ, ◌≤◌, ◌≡◌, ◌^◌, Bool, List}
use Rattle.std.specs.List.Sorted.{IsPermutation}
use Rattle.mesh_plane.specs.Plane.{Point, Edge}
use Rattle.mesh_plane.specs.Winding.{IsBalanced}
use Rattle.mesh_lattice.specs.Clean.{IsProper}
use Rattle.mesh_shapes.specs.Resolution.{Choices}
use Rattle.mesh_stroke.specs.Styles.{StrokeStyle}
use Rattle.mesh_stroke.specs.Regions.{AreStrokeRegions}
use Rattle.mesh_stroke.specs.Resolved.{all_edges, IsStroke}

-- the edges of the strokes of all paths are balanced, and none of them ends where it starts, in whatever order they
-- were built and wherever the paths lie
abbrev pub StrokeEdgesAreBalanced : Type 0
StrokeEdgesAreBalanced =
    (unit : ℕ) → 2 ^ 14 ≤ unit → (style : StrokeStyle) (closed : Bool) (paths : List (List Point)) (built : List Edge)
    → IsPermutation built (all_edges unit style closed paths) → IsProper built × IsBalanced built

-- each answer that is a stroke is made of regions
abbrev pub StrokesAreRegions : Type 0
StrokesAreRegions =
    (unit : ℕ) → 2 ^ 14 ≤ unit → (style : StrokeStyle) (closed : Bool) (choices : Choices) (paths : List (List Point))
    (answer : List (List (List Point))) → (stroke : IsStroke unit style closed choices paths answer)
    → (made : AreStrokeRegions unit style closed choices paths answer) × (made.stroke ≡ stroke)
