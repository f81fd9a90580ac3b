use Rattle.std.proofs.Common.{◌≡◌, take}
use Rattle.mesh_num.specs.Segments.{edges_of}
use Rattle.mesh_below.proofs.given.lattice_edges.Given as goal

abbrev pub invariant-loop-s : goal.invariant-loop-s
invariant-loop-s g l = l.edges.items ≡ edges_of (take l.s-index l.segments)
