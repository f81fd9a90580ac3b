-- The sides of neighbours at a vertex.
use Rattle.mesh_regions.proofs.StarSums.{facing_sides}
use Rattle.mesh_regions.proofs.laws.facing_sides_agree.Goals as goal

pub returns : goal.returns
returns c es split s t neighbours = facing_sides es split s t neighbours
