-- The winding of a parallelogram.
use Rattle.std.proofs.Common.{ap}
use Rattle.mesh_plane.specs.Plane.{Point}
use Rattle.mesh_plane.proofs.Triangles.{parallelogram_winds}
use Rattle.mesh_plane.proofs.laws.parallelograms_wind_once.Goals as goal

pub returns : goal.returns
returns known m q a b c d e o = parallelogram_winds m q a b c d (ap (λ (p : Point). p.0) e) (ap (λ (p : Point). p.1) e) o
