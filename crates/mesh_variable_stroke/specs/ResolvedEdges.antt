-- The edges that the answer of a stroke of variable width resolves, and what is promised of them.
use Rattle.std.specs.Prelude.{ℕ, List}
use Rattle.mesh_plane.specs.Plane.{Point}
use Rattle.mesh_plane.specs.Winding.{IsBalanced}
use Rattle.mesh_shapes.specs.Resolution.{Choices}
use Rattle.mesh_arc.specs.declared.arc.ArcOptions.{ArcOptions}
use Rattle.mesh_join.specs.VariableStyles.{Vertex}
use Rattle.mesh_offset.specs.Pieces.{WindAsPieces}
use Rattle.mesh_offset.specs.Staying.{IsSafeResolving}
use Rattle.mesh_variable_stroke.specs.Regions.{all_pieces}
use Rattle.mesh_variable_stroke.specs.Resolved.{IsVariableStroke, HavePromisedEdges}

-- the answer is the stroke of paths, and the edges of which it is the resolution have what is promised of strokes
pub record ResolvesPromisedEdges (unit : ℕ) (options : ArcOptions) (choices : Choices) (paths : List (List Vertex))
    (answer : List (List (List Point))) : Type 0 where
  -- these edges are `stroke.built`: those of each path's stroke, in some order
  pub stroke : IsVariableStroke unit options choices paths answer
  -- of each path's this is promised
  pub each : HavePromisedEdges unit options paths
  -- together they close up
  pub balanced : IsBalanced stroke.built
  -- and wind as the pieces of all paths together
  pub sum : WindAsPieces (all_pieces unit options paths) stroke.built
  -- they are safe, and so is all that is computed of them
  pub safe : IsSafeResolving unit stroke.built
