use Rattle.std.proofs.Common.{◌≡◌, ◌*◌, ◌^◌, map, take}
use Rattle.std.specs.Prelude.{pos, ◌≤ℤ◌}
use Rattle.mesh_plane.specs.Winding.{sum_of}
use Rattle.mesh_lattice.specs.Counted.{size}
use Rattle.mesh_points.specs.Edges.{counted}
use Rattle.mesh_ahead.proofs.segments.counted_segments.Given as goal

abbrev pub invariant-loop-piece : goal.invariant-loop-piece
invariant-loop-piece l = record {
  value : l.segments.items ≡ map counted (take l.piece-index l.pieces);
  room : sum_of size l.segments.items ≤ℤ pos (l.piece-index * 2 ^ 31);
}
