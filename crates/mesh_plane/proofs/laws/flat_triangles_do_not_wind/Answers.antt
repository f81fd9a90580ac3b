-- The winding of a flat triangle.
use Rattle.mesh_plane.proofs.Triangles.{flat_triangle_winds}
use Rattle.mesh_plane.proofs.laws.flat_triangles_do_not_wind.Goals as goal

pub returns : goal.returns
returns c m q p r s e = flat_triangle_winds m q p r s e
