-- Strokes are regions.
use Rattle.std.specs.Prelude.{ℕ, ◌≡◌, Bool, List}
use Rattle.std.specs.List.{All, flat_map}
use Rattle.mesh_plane.specs.Plane.{Point}
use Rattle.mesh_lattice.specs.FillRules.{filled}
use Rattle.mesh_lattice.specs.declared.fill.FillRule.TheVariants.{Positive}
use Rattle.mesh_below.specs.Regions.{OutsideBent}
use Rattle.mesh_shapes.specs.Resolution.{Choices}
use Rattle.mesh_below.specs.Laws.{AreRegions}
use Rattle.mesh_below.specs.Nearness.{AreRegionsBeyond}
use Rattle.mesh_ahead.specs.Counting.{CountsWith}
use Rattle.mesh_split.specs.declared.count.SplitCount.{SplitCount}
use Rattle.mesh_lattice.specs.Nearness.{IsFarFrom}
use Rattle.mesh_offset.specs.Regions.{WindsOnceWhere, is_held, wind_above}
use Rattle.mesh_join.specs.declared.style.StrokeSide.TheVariants.{Both}
use Rattle.mesh_stroke.specs.Drawn.{HasStockCaps}
use Rattle.mesh_stroke.specs.Halves.{HalvesAddUp}
use Rattle.mesh_stroke.specs.Resolved.{IsStroke}
use Rattle.mesh_stroke.specs.Reversal.{CountAlike, reversed_edges}
use Rattle.mesh_stroke.specs.Strokes.{stroke_edges, stroke_pieces}
use Rattle.mesh_stroke.specs.Styles.{StrokeStyle}

-- the pieces of the strokes of all paths
abbrev pub all_pieces : ℕ → StrokeStyle → Bool → List (List Point) → List (List Point)
all_pieces unit style closed paths = flat_map (stroke_pieces unit style closed) paths

-- each path that is reversed and has its caps exchanged is drawn by edges that count alike
abbrev pub AreReversible : ℕ → StrokeStyle → Bool → List (List Point) → Type 0
AreReversible unit style closed paths = All (λ (path : List Point).
    CountAlike (reversed_edges unit style closed path) (stroke_edges unit style closed path)) paths

-- an answer is the stroke of paths, made of regions
pub record AreStrokeRegions (unit : ℕ) (style : StrokeStyle) (closed : Bool) (choices : Choices)
    (paths : List (List Point)) (answer : List (List (List Point))) : Type 0 where
  pub stroke : IsStroke unit style closed choices paths answer
  pub regions : AreRegions stroke.built (filled Positive) choices answer
  pub same : regions.resolution ≡ stroke.resolution
  -- it winds once where the windings of all pieces add up to more than 0
  pub fills : WindsOnceWhere (wind_above (all_pieces unit style closed paths))
      (OutsideBent regions.resolution.splits stroke.built) choices answer
  -- but for custom caps: where a piece of some path holds the point
  pub held : HasStockCaps style closed → WindsOnceWhere (is_held (all_pieces unit style closed paths))
      (OutsideBent regions.resolution.splits stroke.built) choices answer
  -- on both sides, each path can be reversed
  pub reversed : style.side ≡ Both → AreReversible unit style closed paths
  -- whatever side is drawn: of each path both halves wind together as the whole with butt caps
  pub halves : All (HalvesAddUp unit style closed) paths

-- an answer is the stroke of paths, made of regions that are exact at each point farther than `k` 64ths of a grid unit
-- from each drawn edge: it winds once where the windings of all pieces add up to more than 0, but for custom caps where
-- a piece of some path holds the point. Paths can be reversed, and halves add up, as in `AreStrokeRegions`
pub record AreStrokeRegionsBeyond (k unit : ℕ) (style : StrokeStyle) (closed : Bool) (choices : Choices)
    (paths : List (List Point)) (answer : List (List (List Point))) : Type 0 where
  pub stroke : IsStroke unit style closed choices paths answer
  pub beyond : AreRegionsBeyond k stroke.built (filled Positive) choices answer
  pub same : beyond.regions.resolution ≡ stroke.resolution
  pub fills : WindsOnceWhere (wind_above (all_pieces unit style closed paths))
      (λ m q. IsFarFrom k m stroke.built q) choices answer
  pub held : HasStockCaps style closed → WindsOnceWhere (is_held (all_pieces unit style closed paths))
      (λ m q. IsFarFrom k m stroke.built q) choices answer
  pub reversed : style.side ≡ Both → AreReversible unit style closed paths
  pub halves : All (HalvesAddUp unit style closed) paths

-- the same, and the splits that its regions come of were counted on, as those of one attempt at what was built
abbrev pub AreCountedStrokeRegions : ℕ → ℕ → StrokeStyle → Bool → Choices → List (List Point)
    → List (List (List Point)) → SplitCount → SplitCount → Type 0
AreCountedStrokeRegions k unit style closed choices paths answer old new =
    (near : AreStrokeRegionsBeyond k unit style closed choices paths answer)
    × CountsWith near.stroke.built old new near.beyond.regions.resolution.splits
