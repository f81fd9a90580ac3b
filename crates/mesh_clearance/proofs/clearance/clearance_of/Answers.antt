use Rattle.std.proofs.Common.{◌∙◌}
use Rattle.std.specs.List.{flat_map}
use Rattle.mesh_num.specs.Paths.{contours_of, shapes_of}
use Rattle.mesh_plane.specs.Winding.{boundary}
use Rattle.mesh_clearance.proofs.Searching.{winding_found}
use Rattle.mesh_clearance.proofs.clearance.clearance_of.Goals as goal

pub returns-clause-winding : goal.returns-clause-winding
returns-clause-winding g c =
    winding_found c.clearance.result _ (contours_of (shapes_of c.args.shapes.now.items)) (g.S.IntShapeResource.paths c.args.paths.now) c.args.are_closed _ _ (c.deref-3.ensures.value ∙ (c.in_ok-edges.ensures ∙ (λ i. flat_map boundary (contours_of (shapes_of (c.deref.ensures.value i))))))
    (c.deref-6.ensures.value ∙ c.in_ok-sections.ensures) c.clearance.ensures
