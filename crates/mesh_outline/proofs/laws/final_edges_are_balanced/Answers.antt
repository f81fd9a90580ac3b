-- What contours give can be resolved.
use Rattle.mesh_outline.proofs.Final.{final_edges}
use Rattle.mesh_outline.proofs.laws.final_edges_are_balanced.Goals as goal

pub returns : goal.returns
returns c unit style contours given give = final_edges unit style contours given give
