use Rattle.std.proofs.Common.{◌≡◌, take}
use Rattle.std.specs.Prelude.{pos, ◌≤ℤ◌}
use Rattle.mesh_plane.specs.Winding.{sum_of}
use Rattle.mesh_lattice.specs.Counted.{size}
use Rattle.mesh_convex.specs.Convex.{once_each}
use Rattle.mesh_convex.proofs.convex.split_convex_loop.Given as goal

abbrev pub invariant-loop-e : goal.invariant-loop-e
invariant-loop-e l = record {
  value : l.segments.items ≡ once_each (take l.e-index l.edges);
  room : sum_of size l.segments.items ≤ℤ pos l.e-index;
}
