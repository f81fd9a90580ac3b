-- No edge, no shape.
use Rattle.mesh_below.proofs.NoShapes.{no_shapes}
use Rattle.mesh_below.proofs.laws.nothing_has_no_shapes.Goals as goal

pub returns : goal.returns
returns c fill options answer r = no_shapes fill options answer r
