use Rattle.std.proofs.Common.{◌≡◌, take, map}
use Rattle.mesh_num.specs.Segments.{edge_of}
use Rattle.mesh_drawing.proofs.edge.sorted_edges.Given as goal

abbrev pub invariant-loop-segment : goal.invariant-loop-segment
invariant-loop-segment g l = l.edges.items ≡ map edge_of (take l.segment-index l.segments)
