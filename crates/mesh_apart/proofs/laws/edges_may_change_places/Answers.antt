-- Edges in another order.
use Rattle.mesh_apart.proofs.Rearranged.{rearranged}
use Rattle.mesh_apart.proofs.laws.edges_may_change_places.Goals as goal

pub returns : goal.returns
returns c edges others same fill options answer r = rearranged edges others same fill options answer r
