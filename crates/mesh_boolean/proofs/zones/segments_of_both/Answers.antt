-- The edges of both are added.
use Rattle.mesh_num.specs.Paths.{shapes_of}
use Rattle.mesh_boolean.proofs.Adding.{both_closed}
use Rattle.mesh_boolean.proofs.zones.segments_of_both.Goals as goal

pub returns : goal.returns
returns g c =
    both_closed g.I.IntNumber.unit c.args.sense (shapes_of c.args.subject.now.items) (shapes_of c.args.clip.now.items) _ _ _ c.new-segments.ensures.items
    c.requires.subject c.requires.clip c.in_ok-add_shapes.ensures c.in_ok-add_shapes-2.ensures
