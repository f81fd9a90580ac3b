-- Segments near given edges.
use Rattle.mesh_lattice.proofs.NearSplits.{segments_near}
use Rattle.mesh_regions.proofs.laws.segments_stay_near_edges.Goals as goal

pub returns : goal.returns
returns c given splits k near segment listed = segments_near given splits k near segment listed
