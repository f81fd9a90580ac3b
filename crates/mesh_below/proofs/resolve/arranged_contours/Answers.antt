use Rattle.mesh_shapes.specs.Resolution.{Choices}
use Rattle.mesh_shapes.specs.Vectors.{contour_edges}
use Rattle.mesh_below.proofs.Settled.{arranged_again, own_proper}
use Rattle.mesh_below.proofs.resolve.arranged_contours.Goals as goal

pub rings_of-requires-clause-proper : goal.rings_of-requires-clause-proper
rings_of-requires-clause-proper c = own_proper (contour_edges c.args.contours.items) c.requires.own_boundary

pub returns : goal.returns
returns c =
    let choices : Choices = record { least_area = c.args.choices.least_area; all_vertices = c.args.choices.all_vertices; clockwise = c.args.choices.clockwise } in
    arranged_again choices _ c.args.contours.items _ _ _ c.requires.own_boundary c.in_ok-rings.ensures c.in_ok-shapes.ensures
