-- Strokes of variable width are regions.
use Rattle.std.specs.Prelude.{ℕ, ◌≡◌, List}
use Rattle.std.specs.List.{flat_map}
use Rattle.mesh_plane.specs.Plane.{Point}
use Rattle.mesh_lattice.specs.FillRules.{filled}
use Rattle.mesh_lattice.specs.declared.fill.FillRule.TheVariants.{Positive}
use Rattle.mesh_below.specs.Regions.{OutsideBent}
use Rattle.mesh_shapes.specs.Resolution.{Choices}
use Rattle.mesh_below.specs.Laws.{AreRegions}
use Rattle.mesh_below.specs.Nearness.{AreRegionsBeyond}
use Rattle.mesh_ahead.specs.Counting.{CountsWith}
use Rattle.mesh_split.specs.declared.count.SplitCount.{SplitCount}
use Rattle.mesh_lattice.specs.Nearness.{IsFarFrom}
use Rattle.mesh_arc.specs.declared.arc.ArcOptions.{ArcOptions}
use Rattle.mesh_join.specs.VariableStyles.{Vertex}
use Rattle.mesh_offset.specs.Regions.{WindsOnceWhere, wind_above}
use Rattle.mesh_variable_stroke.specs.Resolved.{IsVariableStroke}
use Rattle.mesh_variable_stroke.specs.VariableStrokes.{variable_stroke_pieces}

-- the pieces of the strokes of all paths
abbrev pub all_pieces : ℕ → ArcOptions → List (List Vertex) → List (List Point)
all_pieces unit options paths = flat_map (variable_stroke_pieces unit options) paths

-- an answer is the stroke of paths, made of regions
pub record AreVariableStrokeRegions (unit : ℕ) (options : ArcOptions) (choices : Choices) (paths : List (List Vertex))
    (answer : List (List (List Point))) : Type 0 where
  pub stroke : IsVariableStroke unit options choices paths answer
  pub regions : AreRegions stroke.built (filled Positive) choices answer
  pub same : regions.resolution ≡ stroke.resolution
  -- it winds once where the windings of all pieces add up to more than 0
  pub fills : WindsOnceWhere (wind_above (all_pieces unit options paths))
      (OutsideBent regions.resolution.splits stroke.built) choices answer

-- an answer is the stroke of paths, made of regions that are exact at each point farther than `k` 64ths of a grid unit
-- from each drawn edge: it winds once where the windings of all pieces add up to more than 0
pub record AreVariableStrokeRegionsBeyond (k unit : ℕ) (options : ArcOptions) (choices : Choices)
    (paths : List (List Vertex)) (answer : List (List (List Point))) : Type 0 where
  pub stroke : IsVariableStroke unit options choices paths answer
  pub beyond : AreRegionsBeyond k stroke.built (filled Positive) choices answer
  pub same : beyond.regions.resolution ≡ stroke.resolution
  pub fills : WindsOnceWhere (wind_above (all_pieces unit options paths)) (λ m q. IsFarFrom k m stroke.built q)
      choices answer

-- the same, and the splits that its regions come of were counted on, as those of one attempt at what was built
abbrev pub AreCountedVariableStrokeRegions : ℕ → ℕ → ArcOptions → Choices → List (List Vertex)
    → List (List (List Point)) → SplitCount → SplitCount → Type 0
AreCountedVariableStrokeRegions k unit options choices paths answer old new =
    (near : AreVariableStrokeRegionsBeyond k unit options choices paths answer)
    × CountsWith near.stroke.built old new near.beyond.regions.resolution.splits
