use Rattle.std.proofs.Common.{List, subst}
use Rattle.mesh_num.specs.Segments.{SignedEdge, edges_of}
use Rattle.mesh_plane.specs.Winding.{IsBalanced}
use Rattle.mesh_bench.proofs.resolve.Goals as goal

pub overlay-requires-clause-balanced : goal.overlay-requires-clause-balanced
overlay-requires-clause-balanced c = subst (λ (ss : List SignedEdge). IsBalanced (edges_of ss)) c.deref.ensures.value (c.in_ok-ready.ensures.0 c.if-not-ready.false).balanced
