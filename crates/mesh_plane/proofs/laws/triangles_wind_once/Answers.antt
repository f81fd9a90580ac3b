-- The winding of a triangle.
use Rattle.mesh_plane.proofs.Triangles.{triangle_winds}
use Rattle.mesh_plane.proofs.laws.triangles_wind_once.Goals as goal

pub returns : goal.returns
returns c m q p r s o = triangle_winds m q p r s o
