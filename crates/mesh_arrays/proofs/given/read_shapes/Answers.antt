-- The contours are read and grouped, or the failure is handed on.
use Rattle.mesh_num.specs.Paths.{paths_of, shapes_of}
use Rattle.mesh_arrays.specs.ShapeRooms.{shape_lists}
use Rattle.mesh_arrays.proofs.GivenShapes.{no_groups, shapes_read}
use Rattle.mesh_arrays.proofs.Readings.{read_also}
use Rattle.mesh_arrays.proofs.given.read_shapes.Goals as goal

pub returns : goal.returns
returns g c =
    let lists = shape_lists c.args.points.now c.args.contour_ends.now c.args.shape_ends.now in
    let contours = paths_of c.in_ok-contours.contours.items in
    read_also (λ shapes. shapes_of shapes.items) _ _ c.group.result c.group.ensures
    (shapes_read g.P.Flat.item_of lists contours c.in_ok-contours.ensures)
    (no_groups g.P.Flat.item_of lists contours c.in_ok-contours.ensures)
