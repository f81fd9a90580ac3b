-- The shapes and the paths are read and measured, or the failure is handed on.
use Rattle.std.proofs.Common.{sym, ◌∙◌}
use Rattle.mesh_num.specs.Paths.{paths_of, shapes_of}
use Rattle.mesh_arrays.specs.EndToEnd.{PathLists, path_lists}
use Rattle.mesh_arrays.specs.ShapeRooms.{ShapeLists, shape_lists}
use Rattle.mesh_arrays.proofs.Clearances.{answers, failed, no_paths, no_shapes}
use Rattle.mesh_arrays.proofs.clearance.clearance_between.Goals as goal

pub returns-in_err-shapes : goal.returns-in_err-shapes
returns-in_err-shapes g c =
    let lists : ShapeLists g.row.P.Denot = shape_lists c.args.points.now c.args.contour_ends.now c.args.shape_ends.now in
    let given_paths : PathLists g.row.P.Denot = path_lists c.args.path_points.now c.args.path_ends.now in
    failed g.P.Flat.item_of lists given_paths c.args.closed c.from_residual.result _
    c.from_residual.ensures.1 (no_shapes g.P.Flat.item_of lists given_paths c.args.closed _ c.in_err-shapes.ensures)

pub returns-in_err-paths : goal.returns-in_err-paths
returns-in_err-paths g c =
    let lists : ShapeLists g.row.P.Denot = shape_lists c.args.points.now c.args.contour_ends.now c.args.shape_ends.now in
    let given_paths : PathLists g.row.P.Denot = path_lists c.args.path_points.now c.args.path_ends.now in
    failed g.P.Flat.item_of lists given_paths c.args.closed c.from_residual-in_err-paths.result _
    c.from_residual-in_err-paths.ensures.1
    (no_paths g.P.Flat.item_of lists given_paths c.args.closed _ c.in_err-paths.ensures)

pub returns : goal.returns
returns g c =
    let lists : ShapeLists g.row.P.Denot = shape_lists c.args.points.now c.args.contour_ends.now c.args.shape_ends.now in
    let given_paths : PathLists g.row.P.Denot = path_lists c.args.path_points.now c.args.path_ends.now in
    answers g.P.Flat.item_of lists given_paths c.args.closed _ (shapes_of c.in_ok-shapes.shapes.items)
    (paths_of c.in_ok-paths.paths.items) c.in-Some.are_closed c.in_ok-clearance_of.field-0 (sym c.flag.ensures ∙ c.in-Some.is) c.in_ok-shapes.ensures
    c.in_ok-paths.ensures c.in_ok-clearance_of.ensures.clearance c.in_64_bits.ensures
