-- The triangles so far.
use Rattle.std.proofs.Common.{take}
use Rattle.std.specs.Prelude.{pos, ◌≤ℤ◌}
use Rattle.std.specs.List.{All}
use Rattle.mesh_plane.specs.Plane.{minus}
use Rattle.mesh_num.specs.Segments.{SignedEdge, edge_of}
use Rattle.mesh_inner.specs.Private.Walks.{IsLimit}
use Rattle.mesh_inner.specs.Room.{HasRoom}
use Rattle.mesh_inner.proofs.fan.with_fan.Given as goal

abbrev pub invariant-loop-segment : goal.invariant-loop-segment
invariant-loop-segment g l =
    IsLimit l.least (λ t. (pos t ≤ℤ l.fn.limit)
    × All (λ (s : SignedEdge). HasRoom t (minus (edge_of s).0 l.fn.corner) (minus (edge_of s).1 l.fn.corner)) (take l.segment-index l.fan))
