-- A vector has one direction.
use Rattle.std.proofs.Common.{◌∙◌, ap}
use Rattle.mesh_plane.specs.Plane.{Edge, minus}
use Rattle.mesh_num.specs.Directed.{direction_of}
use Rattle.mesh_num.proofs.Directed.{is_direction_of}
use Rattle.mesh_inner.proofs.section.heading.Goals as goal

pub returns : goal.returns
returns g c =
    is_direction_of g.I.IntNumber.unit c.sub.result c.in-Some.direction c.in-Some.ensures.value
    ∙ ap (direction_of g.I.IntNumber.unit) (c.sub.ensures ∙ ap (λ (e : Edge). minus e.1 e.0) c.edge.view_is)
