-- No area is taken of a stroke.
use Rattle.mesh_offset.specs.declared.error.IntOutlineError.TheVariants.{CoordinateOutOfRange}
use Rattle.mesh_drawing.proofs.Refusals.{not_refused, memory_only}
use Rattle.mesh_drawing.proofs.stroke.StrokeDrawable.shapes.Goals as goal

pub returns-clause-unfit : goal.returns-clause-unfit
returns-clause-unfit g c = not_refused CoordinateOutOfRange c.stroke_custom.result _ tt (memory_only c.stroke_custom.result c.stroke_custom.ensures.error)
