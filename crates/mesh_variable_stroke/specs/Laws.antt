-- Laws of strokes of variable width of many paths. The function of the same name in the module `laws` carries each.
-- Coordinates are of a type with `unit`.
use Rattle.std.specs.Prelude.{ℕ, ◌≡◌, List}
use Rattle.std.specs.List.Sorted.{IsPermutation}
use Rattle.mesh_plane.specs.Plane.{Point, Edge}
use Rattle.mesh_plane.specs.Winding.{IsBalanced}
use Rattle.mesh_lattice.specs.Clean.{IsProper}
use Rattle.mesh_shapes.specs.Resolution.{Choices}
use Rattle.mesh_arc.specs.declared.arc.ArcOptions.{ArcOptions}
use Rattle.mesh_join.specs.VariableStyles.{Vertex}
use Rattle.mesh_variable_stroke.specs.Regions.{AreVariableStrokeRegions}
use Rattle.mesh_variable_stroke.specs.Resolved.{all_edges, IsVariableStroke}

-- the edges of the strokes of all paths are balanced, and none of them ends where it starts, in whatever order they
-- were built and wherever the paths lie
abbrev pub VariableStrokeEdgesAreBalanced : Type 0
VariableStrokeEdgesAreBalanced =
    (unit : ℕ) (options : ArcOptions) (paths : List (List Vertex)) (built : List Edge)
    → IsPermutation built (all_edges unit options paths) → IsProper built × IsBalanced built

-- each answer that is a stroke is made of regions
abbrev pub VariableStrokesAreRegions : Type 0
VariableStrokesAreRegions =
    (unit : ℕ) (options : ArcOptions) (choices : Choices) (paths : List (List Vertex))
    (answer : List (List (List Point))) → (stroke : IsVariableStroke unit options choices paths answer)
    → (made : AreVariableStrokeRegions unit options choices paths answer) × (made.stroke ≡ stroke)
