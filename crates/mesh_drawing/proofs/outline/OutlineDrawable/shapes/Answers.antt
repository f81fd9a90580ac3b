-- The wide type's numbers are those that areas may be.
use Rattle.mesh_num.specs.Paths.{paths_of}
use Rattle.mesh_drawing.proofs.Refusals.{half_unfit}
use Rattle.mesh_drawing.proofs.outline.OutlineDrawable.shapes.Goals as goal

pub returns-clause-unfit : goal.returns-clause-unfit
returns-clause-unfit g c =
    half_unfit _ g.I.IntNumber.unit (paths_of c.args.self.now.paths.items) _ g.met.I.IntNumber.half_law c.outline_custom.ensures.refused
