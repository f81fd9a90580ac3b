-- The stroke of many paths: the edges of all of them are resolved together.
use Rattle.std.specs.Prelude.{ℕ, List}
use Rattle.std.specs.List.{All, flat_map}
use Rattle.std.specs.List.Sorted.{IsPermutation}
use Rattle.mesh_plane.specs.Plane.{Point, Edge}
use Rattle.mesh_lattice.specs.FillRules.{filled}
use Rattle.mesh_lattice.specs.declared.fill.FillRule.TheVariants.{Positive}
use Rattle.mesh_shapes.specs.Resolution.{Choices, IsResolution}
use Rattle.mesh_arc.specs.declared.arc.ArcOptions.{ArcOptions}
use Rattle.mesh_join.specs.VariableStyles.{Vertex}
use Rattle.mesh_variable_stroke.specs.Drawn.{AreVariablyStroked}
use Rattle.mesh_variable_stroke.specs.VariableStrokes.{variable_stroke_edges}

-- the edges of the strokes of all paths
abbrev pub all_edges : ℕ → ArcOptions → List (List Vertex) → List Edge
all_edges unit options paths = flat_map (variable_stroke_edges unit options) paths

-- the answer is the stroke of paths whose arcs are drawn with these options: the edges of the strokes of all of them
-- are resolved together, with the choices of the caller
pub record IsVariableStroke (unit : ℕ) (options : ArcOptions) (choices : Choices) (paths : List (List Vertex))
    (answer : List (List (List Point))) : Type 0 where
  pub built : List Edge
  pub same : IsPermutation built (all_edges unit options paths)
  pub resolution : IsResolution built (filled Positive) choices answer

-- what is promised of the edges of each path's stroke
abbrev pub HavePromisedEdges : ℕ → ArcOptions → List (List Vertex) → Type 0
HavePromisedEdges unit options paths =
    All (λ (path : List Vertex). AreVariablyStroked unit options path (variable_stroke_edges unit options path)) paths

-- edges that were built of the strokes of all paths, in whatever order
abbrev pub AreAllEdges : ℕ → ArcOptions → List (List Vertex) → List Edge → Type 0
AreAllEdges unit options paths built = IsPermutation built (all_edges unit options paths)
