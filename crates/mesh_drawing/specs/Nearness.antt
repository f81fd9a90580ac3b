-- Drawings that are exact away from the drawn edges, by no more than a number of splits. Distances are in 64ths of a grid
-- unit. Coordinates are of a type with `unit`.
use Rattle.std.specs.Prelude.{ℕ, ◌+◌, List, length}
use Rattle.mesh_plane.specs.Plane.{Point}
use Rattle.mesh_split.specs.Counting.{IsPastLimit, IsWithinLimit}
use Rattle.mesh_split.specs.declared.count.SplitCount.{SplitCount}
use Rattle.mesh_shapes.specs.Resolution.{Choices}
use Rattle.mesh_offset.specs.Counting.{CountsAttempts}
use Rattle.mesh_outline.specs.Nearness.{AreCountedOutlineRegions, IsOutlineDrawing}
use Rattle.mesh_stroke.specs.Regions.{AreCountedStrokeRegions}
use Rattle.mesh_stroke.specs.Resolved.{AreAllEdges}
use Rattle.mesh_variable_stroke.specs.Regions.{AreCountedVariableStrokeRegions}
use Rattle.mesh_variable_stroke.specs.Resolved.{AreAllEdges as AreAllVariableEdges}
use Rattle.mesh_drawing.specs.Drawn.{Drawn, as_outline, as_stroke, as_variable_stroke}

-- the shapes of what is drawn, with these choices, which are exact farther than `k` from each drawn edge; the splits that
-- they come of were counted on
abbrev pub AreCountedShapes : ℕ → ℕ → Choices → Drawn → List (List (List Point)) → SplitCount → SplitCount → Type 0
AreCountedShapes k unit choices (as_outline style paths) shapes =
    AreCountedOutlineRegions k unit style choices paths shapes
AreCountedShapes k unit choices (as_stroke style closed paths) shapes =
    AreCountedStrokeRegions k unit style closed choices paths shapes
AreCountedShapes k unit choices (as_variable_stroke options paths) shapes =
    AreCountedVariableStrokeRegions k unit options choices paths shapes

-- the splits of attempts at what is drawn were counted on: those of one list of edges, of an outline those of each contour
-- and of all together
abbrev pub CountsDrawn : ℕ → Drawn → SplitCount → SplitCount → Type 0
CountsDrawn unit (as_outline style paths) = CountsAttempts (length paths + 1) (IsOutlineDrawing unit style paths)
CountsDrawn unit (as_stroke style closed paths) = CountsAttempts 1 (AreAllEdges unit style closed paths)
CountsDrawn unit (as_variable_stroke options paths) = CountsAttempts 1 (AreAllVariableEdges unit options paths)

-- splits are counted so from none on, of which there may be `most`, or any number where that is 0, and this is so of the
-- count
pub record CountsUpTo (most : ℕ) (AreCounted : SplitCount → SplitCount → Type 0) (IsSo : SplitCount → Type 0)
    : Type 0 where
  pub count : SplitCount
  pub counted : AreCounted (record { made = 0; most = most }) count
  pub so : IsSo count

-- the shapes of what is drawn, exact farther than `k` from each drawn edge, and the splits that they come of are counted
-- and do not pass the limit `most`
abbrev pub AreShapesWithin : ℕ → ℕ → ℕ → Choices → Drawn → List (List (List Point)) → Type 0
AreShapesWithin most k unit choices drawn shapes =
    CountsUpTo most (AreCountedShapes k unit choices drawn shapes) IsWithinLimit

-- a limit is set, and what is drawn took more splits
abbrev pub TakesMoreSplits : ℕ → ℕ → Drawn → Type 0
TakesMoreSplits most unit drawn = CountsUpTo most (CountsDrawn unit drawn) IsPastLimit
