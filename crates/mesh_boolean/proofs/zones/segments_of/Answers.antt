-- The edges of the polygons are added.
use Rattle.mesh_num.specs.Paths.{shapes_of}
use Rattle.mesh_boolean.proofs.Adding.{one_closed}
use Rattle.mesh_boolean.proofs.zones.segments_of.Goals as goal

pub returns : goal.returns
returns g c = one_closed g.I.IntNumber.unit (shapes_of c.args.shapes.now.items) _ _ c.new-segments.ensures.items c.requires c.in_ok-add_shapes.ensures
