-- A product with itself.
use Rattle.mesh_plane.proofs.Sizes.{dot_self}
use Rattle.mesh_plane.proofs.laws.lengths_are_products.Goals as goal

pub returns : goal.returns
returns c v = dot_self v
