-- The edges that the answer of a stroke resolves, and what is promised of them.
use Rattle.std.specs.Prelude.{ℕ, Bool, List}
use Rattle.mesh_plane.specs.Plane.{Point}
use Rattle.mesh_plane.specs.Winding.{IsBalanced}
use Rattle.mesh_shapes.specs.Resolution.{Choices}
use Rattle.mesh_offset.specs.Pieces.{WindAsPieces}
use Rattle.mesh_offset.specs.Staying.{IsSafeResolving}
use Rattle.mesh_stroke.specs.Drawn.{HasStockCaps, WindsAsManyPieces}
use Rattle.mesh_stroke.specs.Regions.{all_pieces}
use Rattle.mesh_stroke.specs.Resolved.{IsStroke, HavePromisedEdges}
use Rattle.mesh_stroke.specs.Styles.{StrokeStyle}

-- the answer is the stroke of paths, and the edges of which it is the resolution have what is promised of strokes
pub record ResolvesPromisedEdges (unit : ℕ) (style : StrokeStyle) (closed : Bool) (choices : Choices)
    (paths : List (List Point)) (answer : List (List (List Point))) : Type 0 where
  -- these edges are `stroke.built`: those of each path's stroke, in some order
  pub stroke : IsStroke unit style closed choices paths answer
  -- of each path's this is promised
  pub each : HavePromisedEdges unit style closed paths
  -- together they close up
  pub balanced : IsBalanced stroke.built
  -- and wind as the pieces of all paths together
  pub sum : WindAsPieces (all_pieces unit style closed paths) stroke.built
  -- but for custom caps, as often as there are pieces that hold the point
  pub count : HasStockCaps style closed → WindsAsManyPieces (all_pieces unit style closed paths) stroke.built
  -- they are safe, and so is all that is computed of them
  pub safe : IsSafeResolving unit stroke.built
