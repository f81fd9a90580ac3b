-- The clearance of the paths through the points of the vertices, and no reach.
use Rattle.std.proofs.Common.{false, map, refl, ap, ◌∙◌}
use Rattle.mesh_num.specs.Paths.{paths_of, shapes_of}
use Rattle.mesh_variable_stroke.specs.Drawn.{vertex_points}
use Rattle.mesh_service.proofs.ToldDistances.{told_of}
use Rattle.mesh_service.proofs.distances.variable_stroke_distances.Goals as goal

pub returns : goal.returns
returns g c =
    let same = c.in_ok-centers.ensures ∙ ap (λ vs. map vertex_points (paths_of vs)) c.deref.ensures.value in
    record { clearance = told_of false (shapes_of c.args.shapes.now.items) _ _ c.in_ok-clearance.clearance same c.in_ok-clearance.ensures; reach = refl }
