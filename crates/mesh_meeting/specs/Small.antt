-- Edges whose coordinates are so small that their turns fit in 64 bits.
use Rattle.std.specs.Prelude.{◌^◌}
use Rattle.mesh_plane.specs.Bounds.{IsSafe}
use Rattle.mesh_plane.specs.Plane.{Edge}

-- both ends have coordinates below 2^30 in size
pub record HasSmallEnds (e : Edge) : Type 0 where
  pub start : IsSafe (2 ^ 30) e.0
  pub end : IsSafe (2 ^ 30) e.1
