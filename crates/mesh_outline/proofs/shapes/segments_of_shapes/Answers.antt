-- The edges of shapes are closed.
use Rattle.mesh_num.specs.Paths.{shapes_of}
use Rattle.mesh_outline.proofs.Resolving.{closed_again}
use Rattle.mesh_outline.proofs.shapes.segments_of_shapes.Goals as goal

pub returns : goal.returns
returns g c = closed_again g.I.IntNumber.unit (shapes_of c.args.shapes.items) _ _ c.new-segments.ensures.items c.requires c.in_ok-add_shapes.ensures
