-- Distances that add up.
use Rattle.mesh_lattice.proofs.NearEdges.{near_through}
use Rattle.mesh_regions.proofs.laws.nearness_adds_up.Goals as goal

pub returns : goal.returns
returns c k l es f stays m some q near = near_through k l m some es f q stays near
