-- The edges so far, and where the walk stands.
use Rattle.std.proofs.Common.{◌≡◌, take}
use Rattle.mesh_plane.specs.Turning.{last_of}
use Rattle.mesh_plane.specs.Winding.{pairs_from}
use Rattle.mesh_num.specs.Segments.{proper_edges}
use Rattle.mesh_inner.proofs.section.path_edges.Given as goal

abbrev pub invariant-loop-to : goal.invariant-loop-to
invariant-loop-to g l = record {
  edges : l.edges.items ≡ proper_edges (pairs_from l.first (take l.to-index l.others));
  from : l.from ≡ last_of l.first (take l.to-index l.others);
}
