-- Lemmas over points and lists: strokes are regions.
use Rattle.std.proofs.Common.{◌≡◌, ℕ, ◌≤◌, ◌^◌, List, Bool, refl, ◌∙◌, get_or}
use Rattle.std.specs.List.{All, flat_map}
use Rattle.mesh_plane.specs.Plane.{Point, Edge}
use Rattle.std.specs.List.Sorted.{IsPermutation}
use Rattle.mesh_plane.specs.Winding.{IsBit, boundary, crossing_on, winding}
use Rattle.mesh_plane.proofs.ClosedLists.{all_flat_map}
use Rattle.mesh_plane.proofs.Crossings.{crossing_on_odd}
use Rattle.mesh_plane.proofs.Pieces.{pieces_counted}
use Rattle.mesh_plane.proofs.Triangles.{crossing_on_straight}
use Rattle.mesh_lattice.specs.FillRules.{filled}
use Rattle.mesh_lattice.specs.declared.fill.FillRule.TheVariants.{Positive}
use Rattle.mesh_shapes.specs.Resolution.{Choices}
use Rattle.mesh_below.specs.Laws.{AreRegions}
use Rattle.mesh_offset.specs.Padding.{ArePathsSafe}
use Rattle.mesh_below.specs.Nearness.{AreCountedRegions, AreRegionsBeyond}
use Rattle.mesh_split.specs.declared.count.SplitCount.{SplitCount}
use Rattle.mesh_lattice.specs.Nearness.{IsFarFrom}
use Rattle.mesh_offset.specs.Pieces.{WindAsPieces}
use Rattle.mesh_offset.proofs.ManyPaths.{built_regions}
use Rattle.mesh_offset.proofs.Regions.{built_sum, regions_above, regions_held, winds_above, winds_held}
use Rattle.mesh_stroke.specs.Drawn.{HasStockCaps}
use Rattle.mesh_stroke.specs.Halves.{HalvesAddUp}
use Rattle.mesh_stroke.specs.Regions.{AreCountedStrokeRegions, AreReversible, AreStrokeRegions, all_pieces}
use Rattle.mesh_stroke.specs.Resolved.{IsStroke}
use Rattle.mesh_stroke.specs.ResolvedEdges.{ResolvesPromisedEdges}
use Rattle.mesh_stroke.specs.Strokes.{stroke_edges, stroke_pieces}
use Rattle.mesh_stroke.specs.Styles.{StrokeStyle, stroke_padding}
use Rattle.mesh_join.specs.declared.style.StrokeSide.TheVariants.{Both}
use Rattle.mesh_stroke.proofs.Halves.{halves_of_all}
use Rattle.mesh_stroke.proofs.Resolving.{promised, stays_safe, stroke_closed}
use Rattle.mesh_stroke.proofs.Reversal.{strokes_can_be_reversed}
use Rattle.mesh_stroke.proofs.Promised.{never_turned, stroke_balanced, stroke_proper, stroke_total}

module _ (unit : ℕ) (least : 2 ^ 14 ≤ unit) (style : StrokeStyle) (closed : Bool) where
  -- the edges that are built wind as all pieces
  all_sum : (choices : Choices) (paths : List (List Point)) (answer : List (List (List Point))) (stroke : IsStroke unit style closed choices paths answer) →
      WindAsPieces (all_pieces unit style closed paths) stroke.built
  all_sum choices paths answer stroke =
      built_sum (stroke_edges unit style closed) (stroke_pieces unit style closed)
      (λ path m q. stroke_total unit least style closed path (crossing_on m q) (crossing_on_odd m q) (crossing_on_straight m q))
      paths stroke.built stroke.same

  all_bits : HasStockCaps style closed → (paths : List (List Point)) (m : ℕ) (q : Point) →
      All (λ (piece : List Point). IsBit (winding m q (boundary piece))) (all_pieces unit style closed paths)
  all_bits stock paths m q =
      all_flat_map (λ (piece : List Point). IsBit (winding m q (boundary piece))) (stroke_pieces unit style closed) paths
      (λ k d h. never_turned unit least style closed (get_or paths k d) stock m q)

  reversible : (paths : List (List Point)) → style.side ≡ Both → AreReversible unit style closed paths
  reversible paths both k d h = strokes_can_be_reversed unit least style both closed (get_or paths k d)

  -- the halves of each path make the whole
  halved : (paths : List (List Point)) → All (HalvesAddUp unit style closed) paths
  halved paths = halves_of_all unit least style closed paths

  -- each stroke is made of regions
  pub stroke_regions : (choices : Choices) (paths : List (List Point)) (answer : List (List (List Point)))
      → (stroke : IsStroke unit style closed choices paths answer)
      → (made : AreStrokeRegions unit style closed choices paths answer) × (made.stroke ≡ stroke)
  stroke_regions choices paths answer stroke = (
    record {
      stroke = stroke;
      regions = made.0;
      same = made.1;
      fills = regions_above stroke.built choices answer made.0 (all_pieces unit style closed paths) sum;
      held = λ stock. regions_held stroke.built choices answer made.0 (all_pieces unit style closed paths) sum (all_bits stock paths);
      reversed = reversible paths;
      halves = halved paths;
    },
    refl,
  )
    where
      made : (regions : AreRegions stroke.built (filled Positive) choices answer) × (regions.resolution ≡ stroke.resolution)
      made =
          built_regions (stroke_edges unit style closed) (stroke_proper unit style closed)
          (stroke_balanced unit least style closed) Positive choices paths answer stroke.built stroke.same stroke.resolution

      sum : WindAsPieces (all_pieces unit style closed paths) stroke.built
      sum = all_sum choices paths answer stroke

  -- and where the nearness of its splits is known, and their count, of regions that are exact beyond it
  pub stroke_beyond : (k : ℕ) (choices : Choices) (paths : List (List Point)) (answer : List (List (List Point))) (built : List Edge)
      → (same : IsPermutation built (flat_map (stroke_edges unit style closed) paths)) → (old new : SplitCount)
      → AreCountedRegions k built (filled Positive) choices answer old new → AreCountedStrokeRegions k unit style closed choices paths answer old new
  stroke_beyond k choices paths answer built same old new standing = (
    record {
      stroke = stroke;
      beyond = beyond;
      same = refl;
      fills = winds_above built choices answer beyond.regions (all_pieces unit style closed paths) sum (λ m q. IsFarFrom k m built q) beyond.exact;
      held = λ stock.
          winds_held built choices answer beyond.regions (all_pieces unit style closed paths) sum (λ m q. IsFarFrom k m built q) beyond.exact
          (all_bits stock paths);
      reversed = reversible paths;
      halves = halved paths;
    },
    standing.counted,
  )
    where
      beyond : AreRegionsBeyond k built (filled Positive) choices answer
      beyond = standing.beyond

      stroke : IsStroke unit style closed choices paths answer
      stroke = record { built = built; same = same; resolution = beyond.regions.resolution }

      sum : WindAsPieces (all_pieces unit style closed paths) built
      sum = all_sum choices paths answer stroke

-- each stroke of paths that stay safe within its padding resolves edges of which this is promised
pub stroke_resolves : (unit : ℕ) → 2 ^ 14 ≤ unit → (style : StrokeStyle) (closed : Bool) (choices : Choices)
    (paths : List (List Point)) (answer : List (List (List Point))) → ArePathsSafe unit (stroke_padding style) paths
    → IsStroke unit style closed choices paths answer → ResolvesPromisedEdges unit style closed choices paths answer
stroke_resolves unit least style closed choices paths answer safe stroke = record {
  stroke = stroke;
  each = promised unit style closed paths least safe;
  balanced = (stroke_closed unit least style closed paths stroke.built stroke.same).1;
  sum = all_sum unit least style closed choices paths answer stroke;
  count =
      λ stock m q. all_sum unit least style closed choices paths answer stroke m q
      ∙ pieces_counted m q (all_pieces unit style closed paths) (all_bits unit least style closed stock paths m q);
  safe = stays_safe unit style closed paths least safe stroke.built stroke.same;
}
