-- The stroke of many paths: the edges of all of them are resolved together.
use Rattle.std.specs.Prelude.{ℕ, Bool, List}
use Rattle.std.specs.List.{All, flat_map}
use Rattle.std.specs.List.Sorted.{IsPermutation}
use Rattle.mesh_plane.specs.Plane.{Point, Edge}
use Rattle.mesh_lattice.specs.FillRules.{filled}
use Rattle.mesh_lattice.specs.declared.fill.FillRule.TheVariants.{Positive}
use Rattle.mesh_shapes.specs.Resolution.{Choices, IsResolution}
use Rattle.mesh_stroke.specs.Drawn.{AreStroked}
use Rattle.mesh_stroke.specs.Strokes.{stroke_edges}
use Rattle.mesh_stroke.specs.Styles.{StrokeStyle}

-- the edges of the strokes of all paths
abbrev pub all_edges : ℕ → StrokeStyle → Bool → List (List Point) → List Edge
all_edges unit style closed paths = flat_map (stroke_edges unit style closed) paths

-- the answer is the stroke of paths in this style: the edges of the strokes of all of them are resolved together, with
-- the choices of the caller
pub record IsStroke (unit : ℕ) (style : StrokeStyle) (closed : Bool) (choices : Choices) (paths : List (List Point))
    (answer : List (List (List Point))) : Type 0 where
  pub built : List Edge
  pub same : IsPermutation built (all_edges unit style closed paths)
  pub resolution : IsResolution built (filled Positive) choices answer

-- what is promised of the edges of each path's stroke
abbrev pub HavePromisedEdges : ℕ → StrokeStyle → Bool → List (List Point) → Type 0
HavePromisedEdges unit style closed paths =
    All (λ (path : List Point). AreStroked unit style closed path (stroke_edges unit style closed path)) paths

-- edges that were built of the strokes of all paths, in whatever order
abbrev pub AreAllEdges : ℕ → StrokeStyle → Bool → List (List Point) → List Edge → Type 0
AreAllEdges unit style closed paths built = IsPermutation built (all_edges unit style closed paths)
