-- How far a point in an edge's box lies from the edge.
use Rattle.mesh_lattice.proofs.Nearness.{near_of_turn, turn_of_near}
use Rattle.mesh_regions.proofs.laws.nearness_is_by_turns.Goals as goal

pub returns : goal.returns
returns c k e p box = (turn_of_near k e p, near_of_turn k e p box)
