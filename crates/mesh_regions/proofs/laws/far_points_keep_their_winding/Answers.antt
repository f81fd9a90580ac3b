-- The winding far from given edges.
use Rattle.mesh_lattice.proofs.NearSplits.{far_winding}
use Rattle.mesh_regions.proofs.laws.far_points_keep_their_winding.Goals as goal

pub returns : goal.returns
returns c given splits k near m some q far = far_winding given splits k near m some q far
