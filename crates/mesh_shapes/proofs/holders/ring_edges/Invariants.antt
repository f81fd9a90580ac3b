use Rattle.std.proofs.Common.{◌≡◌, ◌++◌, drop}
use Rattle.std.specs.List.{flat_map, enumerate_from}
use Rattle.mesh_shapes.specs.Vectors.{rings_of_vecs}
use Rattle.mesh_shapes.specs.Private.Holders.{ring_edges, placed_edges}
use Rattle.mesh_shapes.proofs.holders.ring_edges.Given as goal

abbrev pub invariant-loop-h : goal.invariant-loop-h
invariant-loop-h l = l.edges.items ++ flat_map ring_edges (enumerate_from l.h (drop l.h (rings_of_vecs l.rings))) ≡ placed_edges (rings_of_vecs l.rings)
