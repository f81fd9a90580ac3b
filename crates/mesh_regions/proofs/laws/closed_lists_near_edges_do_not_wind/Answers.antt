-- Closed lists near one edge.
use Rattle.mesh_lattice.proofs.NearEdges.{closed_near}
use Rattle.mesh_regions.proofs.laws.closed_lists_near_edges_do_not_wind.Goals as goal

pub returns : goal.returns
returns c k e points near m some q far = closed_near k m some e q far points near
