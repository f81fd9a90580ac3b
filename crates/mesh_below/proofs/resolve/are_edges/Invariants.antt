use Rattle.std.proofs.Common.{◌≡◌, take}
use Rattle.mesh_convex.specs.Convex.{once_each}
use Rattle.mesh_below.proofs.resolve.are_edges.Given as goal

abbrev pub invariant-loop-k : goal.invariant-loop-k
invariant-loop-k l = take l.k l.segments ≡ once_each (take l.k l.edges)
