-- Lemmas over points and lists: strokes of variable width are regions.
use Rattle.std.proofs.Common.{◌≡◌, ℕ, ◌≤◌, ◌^◌, List, refl}
use Rattle.mesh_plane.specs.Plane.{Point, Edge}
use Rattle.std.specs.List.{flat_map}
use Rattle.std.specs.List.Sorted.{IsPermutation}
use Rattle.mesh_plane.specs.Winding.{crossing_on}
use Rattle.mesh_plane.proofs.Crossings.{crossing_on_odd}
use Rattle.mesh_lattice.specs.FillRules.{filled}
use Rattle.mesh_lattice.specs.declared.fill.FillRule.TheVariants.{Positive}
use Rattle.mesh_shapes.specs.Resolution.{Choices}
use Rattle.mesh_below.specs.Laws.{AreRegions}
use Rattle.mesh_below.specs.Nearness.{AreCountedRegions, AreRegionsBeyond}
use Rattle.mesh_split.specs.declared.count.SplitCount.{SplitCount}
use Rattle.mesh_lattice.specs.Nearness.{IsFarFrom}
use Rattle.mesh_arc.specs.declared.arc.ArcOptions.{ArcOptions}
use Rattle.mesh_join.specs.VariableStyles.{Vertex}
use Rattle.mesh_offset.specs.Pieces.{WindAsPieces}
use Rattle.mesh_offset.proofs.ManyPaths.{built_regions}
use Rattle.mesh_offset.proofs.Regions.{built_sum, regions_above, winds_above}
use Rattle.mesh_variable_stroke.specs.Regions.{AreCountedVariableStrokeRegions, AreVariableStrokeRegions, all_pieces}
use Rattle.mesh_variable_stroke.specs.Resolved.{IsVariableStroke}
use Rattle.mesh_variable_stroke.specs.ResolvedEdges.{ResolvesPromisedEdges}
use Rattle.mesh_variable_stroke.specs.Strokable.{ArePathsStrokable}
use Rattle.mesh_variable_stroke.specs.VariableStrokes.{variable_stroke_edges, variable_stroke_pieces}
use Rattle.mesh_variable_stroke.proofs.Promised.{variable_balanced, variable_proper}
use Rattle.mesh_variable_stroke.proofs.Resolving.{promised, stays_safe, stroke_closed}
use Rattle.mesh_variable_stroke.proofs.Sums.{variable_total}

module _ (unit : ℕ) (options : ArcOptions) where
  -- the edges that are built wind as all pieces
  all_sum : (choices : Choices) (paths : List (List Vertex)) (answer : List (List (List Point)))
      → (stroke : IsVariableStroke unit options choices paths answer)
      → WindAsPieces (all_pieces unit options paths) stroke.built
  all_sum choices paths answer stroke =
      built_sum (variable_stroke_edges unit options) (variable_stroke_pieces unit options)
      (λ path m q. variable_total (crossing_on m q) (crossing_on_odd m q) unit options path) paths stroke.built
      stroke.same

  -- each stroke is made of regions
  pub stroke_regions : (choices : Choices) (paths : List (List Vertex)) (answer : List (List (List Point)))
      → (stroke : IsVariableStroke unit options choices paths answer)
      → (made : AreVariableStrokeRegions unit options choices paths answer) × (made.stroke ≡ stroke)
  stroke_regions choices paths answer stroke = (
    record {
      stroke = stroke;
      regions = made.0;
      same = made.1;
      fills = regions_above stroke.built choices answer made.0 (all_pieces unit options paths) sum;
    },
    refl,
  )
    where
      made : (regions : AreRegions stroke.built (filled Positive) choices answer) × (regions.resolution ≡ stroke.resolution)
      made =
          built_regions (variable_stroke_edges unit options) (variable_proper unit options) (variable_balanced unit options)
          Positive choices paths answer stroke.built stroke.same stroke.resolution

      sum : WindAsPieces (all_pieces unit options paths) stroke.built
      sum = all_sum choices paths answer stroke

  -- and where the nearness of its splits is known, and their count, of regions that are exact beyond it
  pub stroke_beyond : (k : ℕ) (choices : Choices) (paths : List (List Vertex)) (answer : List (List (List Point))) (built : List Edge)
      → (same : IsPermutation built (flat_map (variable_stroke_edges unit options) paths)) → (old new : SplitCount)
      → AreCountedRegions k built (filled Positive) choices answer old new → AreCountedVariableStrokeRegions k unit options choices paths answer old new
  stroke_beyond k choices paths answer built same old new standing = (
    record {
      stroke = stroke;
      beyond = beyond;
      same = refl;
      fills = winds_above built choices answer beyond.regions (all_pieces unit options paths) (all_sum choices paths answer stroke) (λ m q. IsFarFrom k m built q) beyond.exact;
    },
    standing.counted,
  )
    where
      beyond : AreRegionsBeyond k built (filled Positive) choices answer
      beyond = standing.beyond

      stroke : IsVariableStroke unit options choices paths answer
      stroke = record { built = built; same = same; resolution = beyond.regions.resolution }

  -- each stroke of paths that stay safe within its greatest radius resolves edges of which this is promised
  pub stroke_resolves : (choices : Choices) (paths : List (List Vertex)) (answer : List (List (List Point)))
      → 2 ^ 14 ≤ unit → ArePathsStrokable unit paths → IsVariableStroke unit options choices paths answer
      → ResolvesPromisedEdges unit options choices paths answer
  stroke_resolves choices paths answer least safe stroke = record {
    stroke = stroke;
    each = promised unit options paths least safe;
    balanced = (stroke_closed unit options paths stroke.built stroke.same).1;
    sum = all_sum choices paths answer stroke;
    safe = stays_safe unit options paths least safe stroke.built stroke.same;
  }
