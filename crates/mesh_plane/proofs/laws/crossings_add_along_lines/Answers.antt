-- Straightness of crossings.
use Rattle.mesh_plane.proofs.Triangles.{crossing_on_straight}
use Rattle.mesh_plane.proofs.laws.crossings_add_along_lines.Goals as goal

pub returns : goal.returns
returns c m q p r s e = crossing_on_straight m q p r s e
