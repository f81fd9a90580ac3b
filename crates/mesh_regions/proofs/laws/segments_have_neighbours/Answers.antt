-- The next segment round a vertex.
use Rattle.mesh_regions.proofs.StarNeighbours.{has_neighbour}
use Rattle.mesh_regions.proofs.laws.segments_have_neighbours.Goals as goal

pub returns : goal.returns
returns c es split s stands = let n = has_neighbour es split s stands in (n.at, n.neighbours)
