-- Contours are resolved as a boolean that keeps them, and drawings are drawn.
use Rattle.mesh_drawing.specs.Drawn.{drawn_of}
use Rattle.mesh_operands.proofs.Near.{drawn_counts}
use Rattle.mesh_operands.proofs.near_region.near_region_of.Goals as goal

pub returns-in-Paths-clause-standing : goal.returns-in-Paths-clause-standing
returns-in-Paths-clause-standing g c = rw c.in-Paths.is c.overlay_shapes_with_nearness.ensures.standing

pub returns-in-Drawing-clause-counted : goal.returns-in-Drawing-clause-counted
returns-in-Drawing-clause-counted g c =
    rw c.in-Drawing.is (drawn_counts g.I.IntNumber.unit c.args.fill (drawn_of g.I.IntNumber.value c.in-Drawing.drawing) _ _ c.region_within.ensures.counted)
